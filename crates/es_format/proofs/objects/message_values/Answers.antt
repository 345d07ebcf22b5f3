use Rattle.std.proofs.Common.{arith}
use Rattle.std.proofs.lemmas.Grind.{common_steps}
use Rattle.std.proofs.lemmas.List.{map-append}
use Rattle.serde_json.specs.View.{view}
use Rattle.es_format.specs.MessageData.{message_data}
use Rattle.es_format.proofs.JsonLemmas.{map-step}
use Rattle.es_format.proofs.objects.message_values.Goals as goal

pub loop-message-preserved : goal.loop-message-preserved
loop-message-preserved c =
    let step = map-step message_data c.args.messages.now c.loop-message.message-index c.message-item.result c.loop-message-test.true in
    grind (arith, common_steps, step, map-append view)
