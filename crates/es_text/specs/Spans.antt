-- Whether spans lie in a text, which is given in UTF-8.
use Rattle.std.specs.Prelude.{ℕ, ◌≡◌, ◌≤◌, ◌↔◌, Bool, true, ◌&&◌, ◌||◌, nat_le, nat_lt, slice_index, length, List}
use Rattle.std.specs.Str.{IsCharBoundary}
use Rattle.es_text.specs.declared.span.Span.{Span}

-- this byte of UTF-8 doesn't continue a character
abbrev pub begins_character : ℕ → Bool
begins_character byte = nat_lt byte 128 || nat_le 192 byte

-- a character begins at this byte, or the text ends there
abbrev pub is_boundary : List ℕ → ℕ → Bool
is_boundary bytes at = nat_le at (length bytes) && (nat_le (length bytes) at || begins_character (slice_index bytes at))

-- the span lies in the text, both ends on boundaries of characters, and doesn't start behind its end
abbrev pub is_part : List ℕ → Span → Bool
is_part bytes span = nat_le span.start span.end && (is_boundary bytes span.start && is_boundary bytes span.end)

-- the same, said of its parts
pub record LiesIn (bytes : List ℕ) (span : Span) : Type 0 where
  pub order : span.start ≤ span.end
  pub start : IsCharBoundary bytes span.start
  pub end : IsCharBoundary bytes span.end

abbrev pub PartsLie : Type 0
PartsLie = (bytes : List ℕ) (span : Span) → (is_part bytes span ≡ true) ↔ LiesIn bytes span
