use Rattle.std.proofs.Common.{◌≡◌, ◌++◌, drop}
use Rattle.es_skeleton.proofs.step.end_returned.Given as goal

abbrev pub invariant-loop-head : goal.invariant-loop-head
invariant-loop-head l = (record l.graph { returned = l.graph.returned ++ drop l.head-index l.heads }) ≡ record l.initial.graph { returned = l.initial.graph.returned ++ l.heads }
