use Rattle.std.proofs.Common.{◌∙◌, ◌+◌, [], drop, map, refl, sym, ap}
use Rattle.std.specs.Prelude.{◌&&◌}
use Rattle.std.specs.List.{list_all}
use Rattle.es_grammar.specs.declared.part.Alternative.{Alternative}
use Rattle.es_grammar.specs.declared.part.Product.TheVariants as product
use Rattle.es_grammar.specs.Rules.{row}
use Rattle.es_parser.specs.Fronts.{lacks_row}
use Rattle.es_parser.proofs.FrontsLemmas.{rows_end, rows_step}
use Rattle.es_parser.proofs.fronts.lacks_rows.Goals as goal

no_alternative : Alternative
no_alternative = record { makes = product.Parts; parts = record { ref_ptr = (0, 0); now = [] } }

pub loop-each-init : goal.loop-each-init
loop-each-init c = record { rest = refl }

pub loop-each-preserved : goal.loop-each-preserved
unfolding no_alternative
loop-each-preserved c =
    record {
      rest = c.loop-each.invariant.rest
          ∙ (rows_step c.args.set no_alternative c.args.rows.now c.loop-each.each-index c.loop-each-test.true
          ∙ ap (λ so. so && list_all (lacks_row c.args.set) (map row (drop (c.loop-each.each-index + 1) c.args.rows.now))) (sym c.lacks_parts.ensures ∙ c.if-not-lacks_parts.false));
    }

pub returns-then-not-lacks_parts : goal.returns-then-not-lacks_parts
unfolding no_alternative
returns-then-not-lacks_parts c =
    sym (c.loop-each.invariant.rest
    ∙ (rows_step c.args.set no_alternative c.args.rows.now c.loop-each.each-index c.loop-each-test.true
    ∙ ap (λ so. so && list_all (lacks_row c.args.set) (map row (drop (c.loop-each.each-index + 1) c.args.rows.now))) (sym c.lacks_parts.ensures ∙ c.if-not-lacks_parts.true)))

pub returns : goal.returns
returns c = sym (c.loop-each.invariant.rest ∙ rows_end c.args.set c.args.rows.now c.loop-each.each-index c.loop-each-test.false)
