use Rattle.std.proofs.Common.{◌∙◌, ◌+◌, drop, refl, sym, ap}
use Rattle.std.specs.Option.{unwrap_or}
use Rattle.es_parser.specs.Fronts.{at_first, lacks_part}
use Rattle.es_parser.proofs.FrontsLemmas.{first_end, first_step}
use Rattle.es_parser.proofs.fronts.lacks_parts.Goals as goal

pub loop-each-init : goal.loop-each-init
loop-each-init c = record { rest = refl }

pub loop-each-preserved : goal.loop-each-preserved
loop-each-preserved c =
    record {
      rest = c.loop-each.invariant.rest
          ∙ (first_step (lacks_part c.args.set) _ c.args.parts.now c.loop-each.each-index c.loop-each-test.true
          ∙ ap (λ told. unwrap_or told (at_first (lacks_part c.args.set) (drop (c.loop-each.each-index + 1) c.args.parts.now))) (sym c.in-None.ensures));
    }

pub returns-in-Some : goal.returns-in-Some
returns-in-Some c =
    sym (c.loop-each.invariant.rest
    ∙ (first_step (lacks_part c.args.set) _ c.args.parts.now c.loop-each.each-index c.loop-each-test.true
    ∙ ap (λ told. unwrap_or told (at_first (lacks_part c.args.set) (drop (c.loop-each.each-index + 1) c.args.parts.now))) (sym c.in-Some.ensures)))

pub returns : goal.returns
returns c = sym (c.loop-each.invariant.rest ∙ first_end (lacks_part c.args.set) c.args.parts.now c.loop-each.each-index c.loop-each-test.false)
