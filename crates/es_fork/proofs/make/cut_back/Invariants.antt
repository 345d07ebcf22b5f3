use Rattle.std.proofs.Common.{◌≡◌}
use Rattle.es_fork.specs.Edges.{before}
use Rattle.es_fork.proofs.MakingLemmas.{changed_up_to}
use Rattle.es_fork.proofs.make.cut_back.Given as goal

abbrev pub invariant-loop-segment : goal.invariant-loop-segment
invariant-loop-segment l = l.segment-items ≡ changed_up_to (before l.count) l.initial.segment-items l.segment-index
