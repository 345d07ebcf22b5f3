use Rattle.std.proofs.Common.{◌≡◌, ◌++◌, drop}
use Rattle.es_skeleton.specs.Pendings.{heads}
use Rattle.es_skeleton.proofs.pending.heads_of.Given as goal

abbrev pub invariant-loop-pending : goal.invariant-loop-pending
invariant-loop-pending l = l.list.items ++ heads l.completion (drop l.pending-index l.all) ≡ heads l.completion l.all
