use Rattle.std.proofs.Common.{◌≡◌, ◌++◌}
use Rattle.std.specs.List.{slice_split}
use Rattle.es_globs.specs.Segments.{segments_in, size_in}
use Rattle.es_globs.specs.Spelling.{is_mark}
use Rattle.es_globs.proofs.spelling.Mark.split.Given as goal

abbrev pub invariant-loop-left : goal.invariant-loop-left
invariant-loop-left l = l.parts ++ segments_in (is_mark l.self) l.left ≡ slice_split (is_mark l.self) l.pieces

abbrev pub decreases-loop-left : goal.decreases-loop-left
decreases-loop-left l = size_in l.left
