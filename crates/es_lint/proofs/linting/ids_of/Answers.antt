use Rattle.std.proofs.Common.{arith}
use Rattle.std.proofs.lemmas.Grind.{common_steps}
use Rattle.std.specs.Str.{chars}
use Rattle.es_lint.proofs.LaidLemmas.{one_more_id}
use Rattle.es_lint.proofs.linting.ids_of.Goals as goal

pub loop-place-preserved : goal.loop-place-preserved
loop-place-preserved g c =
    let step = one_more_id g.R.Rule.meaning c.args.kit.now.rules c.loop-place.place (chars c.id.result.now) c.id.ensures in
    grind (arith, common_steps, step, c.in_ok-id.ensures)
