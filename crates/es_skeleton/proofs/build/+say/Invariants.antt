use Rattle.std.proofs.Common.{◌≡◌, ◌+◌, ◌*◌, ◌-◌, take}
use Rattle.es_skeleton.specs.declared.completion.Completion.TheVariants.{Normal}
use Rattle.es_skeleton.specs.Controls.{Exit}
use Rattle.es_skeleton.specs.Steps.{said}
use Rattle.es_skeleton.specs.Built.{weight, labels_of}
use Rattle.es_skeleton.specs.Shapes.{shape, onto}
use Rattle.es_skeleton.proofs.build.+say.Given as goal

abbrev pub decreases-say : goal.decreases-say
decreases-say l = 2 * weight (shape l.skeleton.now)

abbrev pub decreases-say_both : goal.decreases-say_both
decreases-say_both l = 2 * (weight (shape l.first.now) + weight (shape l.second.now)) + 1

abbrev pub decreases-say_all : goal.decreases-say_all
decreases-say_all l = 2 * weight (onto (Exit Normal) l.parts.now) - 1

abbrev pub invariant-say_all-loop-part : goal.invariant-say_all-loop-part
invariant-say_all-loop-part l = l.graph ≡ record l.initial.graph { segments = said l.initial.graph.segments l.at (labels_of (onto (Exit Normal) (take l.part-index l.parts))) }
