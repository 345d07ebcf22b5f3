use Rattle.std.proofs.Common.{◌≡◌, length}
use Rattle.es_globs.specs.Patterns.{is_member}
use Rattle.es_globs.proofs.piece.is_member.Given as goal

abbrev pub invariant-loop-rest : goal.invariant-loop-rest
invariant-loop-rest l = is_member l.c l.rest ≡ is_member l.c l.members

abbrev pub decreases-loop-rest : goal.decreases-loop-rest
decreases-loop-rest l = length l.rest
