use Rattle.std.proofs.Common.{◌∙◌, sym, ap}
use Rattle.std.specs.List.{list_any}
use Rattle.std.specs.Str.{bytes_eq}
use Rattle.es_grammar.proofs.TerminalsLemmas.{any_map}
use Rattle.es_grammar.proofs.terminal.is_keyword.Goals as goal

pub returns : goal.returns
returns c =
    c.is_one_of.ensures ∙ sym (any_map (bytes_eq c.args.text.now) (λ text. text.now) c.reserved.result.now)
    ∙ ap (list_any (bytes_eq c.args.text.now)) c.reserved.ensures
