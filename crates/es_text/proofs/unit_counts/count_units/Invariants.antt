use Rattle.std.proofs.Common.{◌≡◌, ◌≤◌, ◌*◌, take}
use Rattle.es_text.specs.UnitCounts.{units_begun_in}
use Rattle.es_text.proofs.unit_counts.count_units.Given as goal

abbrev pub invariant-loop-byte : goal.invariant-loop-byte
invariant-loop-byte l = record {
  counted : l.units ≡ units_begun_in (take l.byte-index l.bytes);
  bound : l.units ≤ 2 * l.byte-index;
}
