use Rattle.std.proofs.Common.{◌≡◌, true, sym, subst, ltb-true}
use Rattle.std.specs.Prelude.{nat_lt}
use Rattle.es_grammar.specs.Expressions.{expression_rule}
use Rattle.es_grammar.specs.Grammar.{rule_of}
use Rattle.es_grammar.specs.Ranks.{form_below, rank_of}
use Rattle.es_grammar.proofs.Bits.{first_of_both, second_of_both}
use Rattle.es_grammar.proofs.RanksLemmas.{all_ranked}
use Rattle.es_grammar.proofs.rule.rule_at.Goals as goal

pub returns-clause-ranked : goal.returns-clause-ranked
unfolding expression_rule rule_of
returns-clause-ranked c =
    subst (λ form. form_below (rank_of c.args.symbol) form ≡ true) (sym c.expression_rule.ensures)
    (first_of_both (form_below (rank_of c.args.symbol) (rule_of c.args.symbol)) (nat_lt (rank_of c.args.symbol) 64) (all_ranked c.args.symbol))

pub returns-clause-low : goal.returns-clause-low
returns-clause-low c =
    ltb-true (rank_of c.args.symbol) 64
    (second_of_both (form_below (rank_of c.args.symbol) (rule_of c.args.symbol)) (nat_lt (rank_of c.args.symbol) 64) (all_ranked c.args.symbol))
