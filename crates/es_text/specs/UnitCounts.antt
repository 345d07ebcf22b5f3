-- What a source keeps so that it counts UTF-16 code units fast: how many begin before each 256th
-- byte.
use Rattle.std.specs.Prelude.{◌≡◌, ℕ, ◌*◌, ◌/◌, ◌<◌, true, false, nat_lt, length, take, slice_index, List, if◌then◌else◌}
use Rattle.std.specs.List.{sum_by}
use Rattle.std.specs.Str.{IsAscii}
use Rattle.es_text.specs.declared.unit_counts.TheConstants.{BYTES_A_MARK}
use Rattle.es_text.specs.declared.unit_counts.UnitCounts.{UnitCounts}

-- how many UTF-16 code units the character takes that this byte of UTF-8 begins, and 0 where it
-- begins none: a byte from 0x80 to 0xBF goes on with a character, and one from 0xF0 on begins one
-- beyond U+FFFF
abbrev pub units_begun : ℕ → ℕ
units_begun byte =
    if nat_lt byte 0x80 then 1 else if nat_lt byte 0xC0 then 0 else if nat_lt byte 0xF0 then 1 else 2

abbrev pub units_begun_in : List ℕ → ℕ
units_begun_in bytes = sum_by units_begun bytes

-- the mark at k is how many units begin before the byte 256 * k, and each byte has a mark at most 255
-- bytes before it
pub record AreMarks (bytes marks : List ℕ) : Type 0 where
  pub enough : length bytes / BYTES_A_MARK < length marks
  pub each : (k : ℕ) → k < length marks
      → slice_index marks k ≡ units_begun_in (take (k * BYTES_A_MARK) bytes)

-- what is kept of a text fits its bytes
pub record CountsUnits (bytes : List ℕ) (counts : UnitCounts) : Type 0 where
  pub plain : counts.ascii ≡ true → IsAscii bytes
  pub marked : counts.ascii ≡ false → AreMarks bytes counts.marks.items
