use Rattle.std.proofs.Common.{◌≡◌, length}
use Rattle.es_globs.specs.Globs.{has_group}
use Rattle.es_globs.proofs.glob.has_group.Given as goal

abbrev pub invariant-loop-rest : goal.invariant-loop-rest
invariant-loop-rest l = has_group l.rest ≡ has_group l.text

abbrev pub decreases-loop-rest : goal.decreases-loop-rest
decreases-loop-rest l = length l.rest
