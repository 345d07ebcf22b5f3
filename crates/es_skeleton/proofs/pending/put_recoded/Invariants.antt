use Rattle.std.proofs.Common.{◌≡◌, ◌++◌, drop}
use Rattle.es_skeleton.specs.Pendings.{recoded}
use Rattle.es_skeleton.proofs.pending.put_recoded.Given as goal

abbrev pub invariant-loop-pending : goal.invariant-loop-pending
invariant-loop-pending l = l.list.items ++ recoded l.from l.to (drop l.pending-index l.all) ≡ l.initial.list.items ++ recoded l.from l.to l.all
