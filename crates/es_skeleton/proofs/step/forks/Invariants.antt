use Rattle.std.proofs.Common.{◌≡◌, ◌++◌, map, drop}
use Rattle.es_skeleton.specs.Steps.{fork_of}
use Rattle.es_skeleton.proofs.step.forks.Given as goal

abbrev pub invariant-loop-head : goal.invariant-loop-head
invariant-loop-head l = l.list.items ++ map fork_of (drop l.head-index l.heads) ≡ map fork_of l.heads
