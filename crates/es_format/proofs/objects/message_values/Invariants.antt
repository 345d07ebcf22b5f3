use Rattle.std.proofs.Common.{◌≡◌, map, take}
use Rattle.serde_json.specs.View.{view}
use Rattle.es_format.specs.MessageData.{message_data}
use Rattle.es_format.proofs.objects.message_values.Given as goal

abbrev pub invariant-loop-message : goal.invariant-loop-message
invariant-loop-message l = map view l.values.items ≡ map message_data (take l.message-index l.messages)
