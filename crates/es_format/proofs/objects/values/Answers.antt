use Rattle.std.proofs.Common.{arith}
use Rattle.std.proofs.lemmas.Grind.{common_steps}
use Rattle.std.proofs.lemmas.List.{map-append}
use Rattle.serde_json.specs.View.{view}
use Rattle.es_format.specs.Json.{result_data}
use Rattle.es_format.proofs.JsonLemmas.{map-step}
use Rattle.es_format.proofs.objects.values.Goals as goal

pub loop-named-preserved : goal.loop-named-preserved
loop-named-preserved c =
    let step = map-step result_data c.args.results.now c.loop-named.named-index c.named-item.result c.loop-named-test.true in
    grind (arith, common_steps, step, map-append view)
