use Rattle.std.proofs.Common.{List, ℕ, subst}
use Rattle.std.specs.Bool.{OnFalse}
use Rattle.es_grammar.specs.Firsts.{CanBegin, turn_rows}
use Rattle.es_grammar.specs.Grammar.{rule_of}
use Rattle.es_parser.proofs.beginnings.can_begin.Goals as goal

pub returns-clause-none : goal.returns-clause-none
returns-clause-none g c =
    subst (λ (text : List ℕ). OnFalse c.can_begin_among.result (CanBegin text c.args.spot (turn_rows (rule_of c.args.symbol)) → ⊥))
    c.terminals_at-terminals.ensures.same c.can_begin_among.ensures.none
