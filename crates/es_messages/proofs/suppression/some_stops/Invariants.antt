use Rattle.std.proofs.Common.{◌≡◌, ◌≤◌, drop, length}
use Rattle.std.specs.List.{list_any}
use Rattle.es_messages.specs.Suppression.{governs, some_stops}
use Rattle.es_messages.proofs.suppression.some_stops.Given as goal

abbrev pub invariant-loop-i : goal.invariant-loop-i
invariant-loop-i l = record {
  within : l.i ≤ length l.marks;
  found : l.found ≡ some_stops l.line l.report (drop l.i l.marks);
  governed : l.governed ≡ list_any (governs l.line l.report) (drop l.i l.marks);
}

abbrev pub decreases-loop-i : goal.decreases-loop-i
decreases-loop-i l = l.i
