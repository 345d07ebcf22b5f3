use Rattle.std.proofs.Common.{arith}
use Rattle.std.proofs.lemmas.Grind.{common_steps}
use Rattle.es_format.proofs.TalliesLemmas.{tallies-step}
use Rattle.es_format.proofs.tally.tallies.Goals as goal

pub loop-named-preserved : goal.loop-named-preserved
loop-named-preserved c =
    let step = tallies-step c.args.results.now c.loop-named.named-index c.named-item.result c.loop-named-test.true in
    grind (arith, common_steps, step)
