use Rattle.std.proofs.Common.{◌≡◌, ◌-◌, ◌++◌, drop, length}
use Rattle.std.specs.Str.{chars, IsCharBoundary}
use Rattle.es_text.specs.LineStarts.{line_starts, later_starts}
use Rattle.es_text.proofs.source.line_starts.Given as goal

abbrev pub invariant-loop-at : goal.invariant-loop-at
invariant-loop-at l = record {
  boundary : IsCharBoundary l.text l.at;
  starts : l.starts.items ++ later_starts l.at (chars (drop l.at l.text)) ≡ line_starts (chars l.text);
}

abbrev pub decreases-loop-at : goal.decreases-loop-at
decreases-loop-at l = length l.text - l.at
