use Rattle.std.proofs.Common.{ℕ, ◌<◌, sym, subst, ap, zero, suc, arith, ne_eqb}
use Rattle.std.specs.Prelude.{IsTrue, not, nat_eq}
use Rattle.std.specs.Int.RustNames.{bit_and}
use Rattle.es_grammar.specs.Firsts.{turn_rows, ways_of}
use Rattle.es_grammar.specs.Expressions.{expression_rule}
use Rattle.es_grammar.specs.Grammar.{rule_of}
use Rattle.es_grammar.proofs.FirstSetsLemmas.{found, not_none}
use Rattle.es_grammar.proofs.first.can_begin.Goals as goal

positive : (n : ℕ) → IsTrue (not (nat_eq n 0)) → 0 < n
positive zero h = absurd (cc)
positive (suc n) h = omega arith

some : (n : ℕ) → 0 < n → IsTrue (not (nat_eq n 0))
some n h = ap not (ne_eqb n 0 (λ e. absurd (omega arith)))

pub returns-clause-some : goal.returns-clause-some
unfolding expression_rule rule_of
returns-clause-some c h =
    found c.args.terminals (ways_of (turn_rows (rule_of c.args.symbol))) c.ranges.terminals.fits
    (subst (λ set. 0 < bit_and c.args.terminals set) c.expression_turns.ensures (positive (bit_and c.args.terminals c.expression_turns.result) h))

pub returns-clause-each : goal.returns-clause-each
unfolding expression_rule rule_of
returns-clause-each c terminal h k =
    some (bit_and c.args.terminals c.expression_turns.result)
    (subst (λ set. 0 < bit_and c.args.terminals set) (sym c.expression_turns.ensures) (not_none c.args.terminals (ways_of (turn_rows (rule_of c.args.symbol))) terminal h k))
