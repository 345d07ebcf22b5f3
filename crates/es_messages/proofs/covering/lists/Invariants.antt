use Rattle.std.proofs.Common.{◌≡◌, false, take}
use Rattle.es_messages.specs.Suppression.{lists}
use Rattle.es_messages.proofs.covering.lists.Given as goal

abbrev pub invariant-loop-other : goal.invariant-loop-other
invariant-loop-other l = lists (take l.other-index l.ids) l.id ≡ false
