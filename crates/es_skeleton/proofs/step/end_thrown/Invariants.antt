use Rattle.std.proofs.Common.{◌≡◌, ◌++◌, drop}
use Rattle.es_skeleton.proofs.step.end_thrown.Given as goal

abbrev pub invariant-loop-head : goal.invariant-loop-head
invariant-loop-head l = (record l.graph { thrown = l.graph.thrown ++ drop l.head-index l.heads }) ≡ record l.initial.graph { thrown = l.initial.graph.thrown ++ l.heads }
