use Rattle.std.proofs.Common.{◌≡◌, ◌<◌, List, ◌++◌, length, ◌+◌, ◌*◌, ◌-◌, take}
use Rattle.es_fork.specs.declared.segment.Segment.{Segment}
use Rattle.es_skeleton.specs.declared.completion.Completion.TheVariants.{Normal}
use Rattle.es_skeleton.specs.declared.pending.Pending.{Pending}
use Rattle.es_skeleton.specs.Controls.{Exit}
use Rattle.es_skeleton.specs.Built.{Copied, SomeWait, weight}
use Rattle.es_skeleton.specs.Copies.{HasFewCopies}
use Rattle.es_skeleton.specs.Shapes.{shape, onto}
use Rattle.es_skeleton.proofs.Making.{FrontMade}
use Rattle.es_skeleton.proofs.build.+build.Given as goal

abbrev pub decreases-build : goal.decreases-build
decreases-build l = 2 * weight (shape l.skeleton.now)

abbrev pub decreases-build_catch : goal.decreases-build_catch
decreases-build_catch l = 2 * (weight (shape l.first.now) + weight (shape l.second.now)) + 1

abbrev pub decreases-build_choice : goal.decreases-build_choice
decreases-build_choice l = 2 * (weight (shape l.first.now) + weight (shape l.second.now)) + 1

abbrev pub decreases-build_loop : goal.decreases-build_loop
decreases-build_loop l = 2 * weight (shape l.part.now) + 1

abbrev pub decreases-build_finally : goal.decreases-build_finally
decreases-build_finally l = 2 * (weight (shape l.body.now) + weight (shape l.finalizer.now)) + 1

abbrev pub decreases-build_copies : goal.decreases-build_copies
decreases-build_copies l = 2 * weight (shape l.finalizer.now) + 1

abbrev pub invariant-build_copies-copies : goal.invariant-build_copies-copies
invariant-build_copies-copies l = record {
  made : (g2 : List Segment) (rs : List Pending) → Copied (shape l.finalizer) l.rest.items l.graph.segments g2 rs → Copied (shape l.finalizer) l.initial.rest.items l.initial.graph.segments g2 (l.list.items ++ rs);
  waits : SomeWait l.graph.segments l.rest.items;
  few : length l.rest.items < length l.initial.rest.items → HasFewCopies (shape l.finalizer) l.copies;
  returned : l.graph.returned ≡ l.initial.graph.returned;
  thrown : l.graph.thrown ≡ l.initial.graph.thrown;
}

abbrev pub decreases-build_copies-copies : goal.decreases-build_copies-copies
decreases-build_copies-copies l = length l.rest.items

abbrev pub decreases-build_seq : goal.decreases-build_seq
decreases-build_seq l = 2 * weight (onto (Exit Normal) l.parts.now) - 1

abbrev pub invariant-build_seq-loop-part : goal.invariant-build_seq-loop-part
invariant-build_seq-loop-part l = record {
  made : FrontMade (onto (Exit Normal) (take l.part-index l.parts)) l.initial.graph l.fn.at l.graph l.front.normal.items l.front.rest.items;
  few : HasFewCopies (onto (Exit Normal) (take l.part-index l.parts)) l.fn.copies;
}
