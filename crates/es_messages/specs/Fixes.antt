-- Fixes, and what a pass of them makes of a text, which is given in UTF-8. ESLint's guide, "Applying fixes".
use Rattle.std.specs.Prelude.{◌≡◌, ℕ, ◌<◌, ◌≤◌, ◌==◌, Bool, false, List, [], ◌∷◌, ◌++◌, length, drop, slice_range, slice_index_or, nat_le, nat_lt, if◌then◌else◌}
use Rattle.std.specs.List.{enumerate_from, list_all, list_any}
use Rattle.std.specs.List.Sorted.{IsPermutation, IsSortedBy}
use Rattle.std.specs.Ordering.{is_lt, nat_cmp, on, then_cmp}
use Rattle.std.specs.declared.cmp.Ordering.{Ordering}
use Rattle.std.specs.Str.{encode_utf8_all}
use Rattle.es_text.specs.SourceFaults.{most_bytes}
use Rattle.es_text.specs.Spans.{is_part}
use Rattle.es_text.specs.declared.finding.Fix.{Fix}
use Rattle.es_messages.specs.declared.fixing.Applied.{Applied}

-- a fix, and its position in the list that was given
abbrev pub Numbered : Type 0
Numbered = ℕ × Fix

abbrev pub start_of : Numbered → ℕ
start_of one = one.1.span.start

abbrev pub end_of : Numbered → ℕ
end_of one = one.1.span.end

-- by start, then by end, then by position
abbrev pub numbered_cmp : Numbered → Numbered → Ordering
numbered_cmp = then_cmp (on start_of nat_cmp) (then_cmp (on end_of nat_cmp) (on (λ one. one.0) nat_cmp))

abbrev pub goes_before : Numbered → Numbered → Bool
goes_before x y = is_lt (numbered_cmp x y)

-- each of the fixes once, in this order. No two tie, so there is one such list
pub record IsInOrder (fixes : List Fix) (order : List Numbered) : Type 0 where
  pub each_once : IsPermutation (enumerate_from 0 fixes) order
  pub rises : IsSortedBy goes_before order

-- each of these ends before this one starts
abbrev pub all_end_before : Numbered → List Numbered → Bool
all_end_before one earlier = list_all (λ other. nat_lt (end_of other) (start_of one)) earlier

-- those that were taken, and of the others, which follow in order, each before whose start each earlier one
-- that is taken ends
abbrev pub taken_behind : List Numbered → List Numbered → List Numbered
taken_behind earlier [] = earlier
taken_behind earlier (one ∷ later) =
    if all_end_before one earlier then taken_behind (earlier ++ one ∷ []) later else taken_behind earlier later

abbrev pub taken_of : List Numbered → List Numbered
taken_of order = taken_behind [] order

-- from this offset on, the bytes with the spans of these replaced, which stand in order
abbrev pub replaced : List ℕ → ℕ → List Numbered → List ℕ
replaced bytes at [] = drop at bytes
replaced bytes at (one ∷ later) =
    slice_range bytes at (start_of one) ++ (encode_utf8_all one.1.text ++ replaced bytes (end_of one) later)

-- for each position of so many, whether one with it was taken
pub record Tells (taken : List Numbered) (count : ℕ) (flags : List Bool) : Type 0 where
  pub long : length flags ≡ count
  pub each : (position : ℕ) → position < count
      → slice_index_or flags position false ≡ list_any (λ one. one.0 == position) taken

-- What a pass gives with these fixes taken: the new text, or where it would be too long the old one, with
-- none taken
pub data Gives (bytes : List ℕ) (count : ℕ) (taken : List Numbered) (applied : Applied) : Type 0 where
  made : length (replaced bytes 0 taken) ≤ most_bytes
      → encode_utf8_all applied.text ≡ replaced bytes 0 taken → Tells taken count applied.taken
      → Gives bytes count taken applied
  left : most_bytes < length (replaced bytes 0 taken)
      → encode_utf8_all applied.text ≡ bytes → Tells [] count applied.taken
      → Gives bytes count taken applied

-- what one pass of the fixes gives
pub record IsPass (bytes : List ℕ) (fixes : List Fix) (applied : Applied) : Type 0 where
  pub order : List Numbered
  pub in_order : IsInOrder fixes order
  pub gives : Gives bytes (length fixes) (taken_of order) applied

-- the span of each fix lies in the text
abbrev pub fixes_fit : List ℕ → List Fix → Bool
fixes_fit bytes fixes = list_all (λ fix. is_part bytes fix.span) fixes
