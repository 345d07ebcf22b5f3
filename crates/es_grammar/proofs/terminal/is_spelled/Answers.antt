use Rattle.std.proofs.Common.{◌∙◌, sym, ap}
use Rattle.std.specs.Prelude.{option_map}
use Rattle.es_grammar.proofs.TerminalsLemmas.{spelled_some, spelled_none}
use Rattle.es_grammar.proofs.terminal.is_spelled.Goals as goal

pub returns-in-Some : goal.returns-in-Some
returns-in-Some c =
    c.eq.ensures
    ∙ sym (spelled_some c.args.text.now c.in-Some.spelling.now c.args.code (sym c.spelling.ensures ∙ ap (option_map (λ text. text.now)) c.in-Some.is))

pub returns-in-None : goal.returns-in-None
returns-in-None c =
    sym (spelled_none c.args.text.now c.args.code (sym c.spelling.ensures ∙ ap (option_map (λ text. text.now)) c.in-None.is))
