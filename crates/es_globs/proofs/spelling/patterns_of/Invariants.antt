use Rattle.std.proofs.Common.{◌≡◌, ◌<◌, ◌≤◌, length}
use Rattle.es_globs.specs.declared.spelling.Mark.TheVariants.{Open}
use Rattle.es_globs.specs.declared.spelling.TheConstants.{MOST_PATTERNS}
use Rattle.es_globs.specs.Segments.{segments_in, size_in}
use Rattle.es_globs.specs.Spelling.{is_mark, patterns_of}
use Rattle.es_globs.proofs.SpellingLemmas.{with_spelled}
use Rattle.es_globs.proofs.spelling.patterns_of.Given as goal

abbrev pub invariant-loop-left : goal.invariant-loop-left
invariant-loop-left l = record {
  same : with_spelled l.patterns (segments_in (is_mark Open) l.left) ≡ patterns_of l.pieces;
  some : 0 < length l.patterns;
  few : length l.patterns ≤ MOST_PATTERNS;
}

abbrev pub decreases-loop-left : goal.decreases-loop-left
decreases-loop-left l = size_in l.left
