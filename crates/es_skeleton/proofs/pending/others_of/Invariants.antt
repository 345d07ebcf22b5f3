use Rattle.std.proofs.Common.{◌≡◌, ◌++◌, drop}
use Rattle.es_skeleton.specs.Pendings.{others}
use Rattle.es_skeleton.proofs.pending.others_of.Given as goal

abbrev pub invariant-loop-pending : goal.invariant-loop-pending
invariant-loop-pending l = l.list.items ++ others l.completion (drop l.pending-index l.all) ≡ others l.completion l.all
