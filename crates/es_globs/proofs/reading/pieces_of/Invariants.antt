use Rattle.std.proofs.Common.{◌≡◌, length}
use Rattle.es_globs.specs.Reading.{pieces_behind}
use Rattle.es_globs.proofs.ReadingLemmas.{with_read}
use Rattle.es_globs.proofs.reading.pieces_of.Given as goal

abbrev pub invariant-loop-rest : goal.invariant-loop-rest
invariant-loop-rest l = with_read l.pieces (pieces_behind 0 l.rest) ≡ pieces_behind 0 l.text

abbrev pub decreases-loop-rest : goal.decreases-loop-rest
decreases-loop-rest l = length l.rest
