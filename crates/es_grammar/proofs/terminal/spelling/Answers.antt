use Rattle.std.proofs.Common.{◌∙◌, sym, ap}
use Rattle.std.specs.Prelude.{option_map}
use Rattle.es_grammar.proofs.TerminalsLemmas.{in_memory}
use Rattle.es_grammar.proofs.terminal.spelling.Goals as goal

pub returns : goal.returns
returns c =
    ap (option_map (λ text. text.now)) c.text_at.ensures ∙ sym (in_memory (λ text. text.now) c.texts.result.now c.args.code c.texts.ensures)
