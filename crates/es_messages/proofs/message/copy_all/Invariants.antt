use Rattle.std.proofs.Common.{◌≡◌, take}
use Rattle.es_messages.proofs.message.copy_all.Given as goal

abbrev pub invariant-loop-message : goal.invariant-loop-message
invariant-loop-message l = l.copies ≡ take l.message-index l.messages
