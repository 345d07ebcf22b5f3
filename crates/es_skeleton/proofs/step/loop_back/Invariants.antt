use Rattle.std.proofs.Common.{◌≡◌, drop, ℕ, length}
use Rattle.es_fork.specs.Graphs.{segment_at}
use Rattle.es_skeleton.specs.Steps.{looped}
use Rattle.es_skeleton.proofs.step.loop_back.Given as goal

abbrev pub invariant-loop-head : goal.invariant-loop-head
invariant-loop-head l = record {
  whole : (record l.graph { segments = looped l.graph.segments (drop l.head-index l.heads) l.fn.to }) ≡ record l.initial.graph { segments = looped l.initial.graph.segments l.heads l.fn.to };
  count : length l.graph.segments ≡ length l.initial.graph.segments;
  reachable : (x : ℕ) → (segment_at l.graph.segments x).reachable ≡ (segment_at l.initial.graph.segments x).reachable;
}
