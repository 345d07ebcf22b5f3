use Rattle.std.proofs.Common.{ℕ, ◌≡◌, ◌≤◌, ◌<◌, ◌*◌, ◌+◌, take, length}
use Rattle.std.specs.Prelude.{slice_index}
use Rattle.es_text.specs.UnitCounts.{units_begun_in}
use Rattle.es_text.specs.declared.unit_counts.TheConstants.{BYTES_A_MARK}
use Rattle.es_text.proofs.unit_counts.unit_marks.Given as goal

abbrev pub invariant-loop-mark : goal.invariant-loop-mark
invariant-loop-mark l = record {
  count : length l.marks.items ≡ l.mark + 1;
  each : (k : ℕ) → k < length l.marks.items → slice_index l.marks.items k ≡ units_begun_in (take (k * BYTES_A_MARK) l.bytes);
  counted : l.units ≡ units_begun_in (take (l.mark * BYTES_A_MARK) l.bytes);
  bound : l.units ≤ 2 * (l.mark * BYTES_A_MARK);
}
