use Rattle.std.proofs.Common.{arith}
use Rattle.es_config.specs.Reading.{glob_at}
use Rattle.es_config.proofs.WalksLemmas.{array_on}
use Rattle.es_config.proofs.file_globs.globs_in.Goals as goal

pub loop-index-preserved : goal.loop-index-preserved
loop-index-preserved c =
    array_on glob_at c.args.values.now c.loop-index.index c.index-values-index.result c.loop-index.globs c.push.new.self c.in-Ok.glob
    (omega arith) c.index-values-index.is c.in-Ok.ensures.value c.in_ok-push-in-Ok.ensures.ok c.loop-index.invariant
