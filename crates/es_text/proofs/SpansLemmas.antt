-- What the test of a span tells.
use Rattle.std.proofs.Common.{◌≡◌, ℕ, ◌<◌, ◌≤◌, List, length, Bool, true, arith, ⊎_elim, inl, inr}
use Rattle.std.specs.Prelude.{◌⊎◌, ◌↔◌, ◌&&◌, ◌||◌, nat_le, nat_lt, slice_index}
use Rattle.std.specs.Str.{IsCharBoundary}
use Rattle.std.proofs.lemmas.Bool.{and_from, and_parts, cases_lt, or_cases, or_left, or_right}
use Rattle.std.proofs.lemmas.Bool.Decides.{nat_tests}
use Rattle.es_text.specs.declared.span.Span.{Span}
use Rattle.es_text.specs.Spans.{LiesIn, begins_character, is_boundary, is_part}

true_le : (a b : ℕ) → nat_le a b ≡ true → a ≤ b
true_le a b h = grind (arith, nat_tests)

le_true : (a b : ℕ) → a ≤ b → nat_le a b ≡ true
le_true a b h = grind (arith, nat_tests)

-- no continuing byte begins a character
high : (byte : ℕ) → begins_character byte ≡ true → 128 ≤ byte → 192 ≤ byte
high byte begins continues = grind (arith, nat_tests)

begins : (byte : ℕ) → (128 ≤ byte → 192 ≤ byte) → begins_character byte ≡ true
begins byte lead =
    ⊎_elim
    (λ (ascii : byte < 128). or_left (nat_lt byte 128) (nat_le 192 byte) (grind (arith, nat_tests)))
    (λ (over : 128 ≤ byte). or_right (nat_lt byte 128) (nat_le 192 byte) (le_true 192 byte (lead over)))
    (cases_lt byte 128)

module _ (bytes : List ℕ) where
  abbrev ends : ℕ → Bool
  ends at = nat_le (length bytes) at

  abbrev leads : ℕ → Bool
  leads at = begins_character (slice_index bytes at)

  beside : (at : ℕ) → at < length bytes → (ends at ≡ true) ⊎ (leads at ≡ true) → 128 ≤ slice_index bytes at → 192 ≤ slice_index bytes at
  beside at less (inl end) = absurd (omega (arith, less, true_le (length bytes) at end))
  beside at less (inr lead) = high (slice_index bytes at) lead

  told_boundary : (at : ℕ) → is_boundary bytes at ≡ true → IsCharBoundary bytes at
  told_boundary at h =
      let parts = and_parts (nat_le at (length bytes)) (ends at || leads at) h in
      (true_le at (length bytes) parts.0, λ less. beside at less (or_cases (ends at) (leads at) parts.1))

  boundary_told : (at : ℕ) → IsCharBoundary bytes at → is_boundary bytes at ≡ true
  boundary_told at boundary =
      and_from (nat_le at (length bytes)) (ends at || leads at) (le_true at (length bytes) boundary.0)
      (⊎_elim
      (λ (less : at < length bytes). or_right (ends at) (leads at) (begins (slice_index bytes at) (boundary.1 less)))
      (λ (end : length bytes ≤ at). or_left (ends at) (leads at) (le_true (length bytes) at end))
      (cases_lt at (length bytes)))

  told_part : (span : Span) → is_part bytes span ≡ true → LiesIn bytes span
  told_part span h =
      let parts = and_parts (nat_le span.start span.end) (is_boundary bytes span.start && is_boundary bytes span.end) h in
      let both = and_parts (is_boundary bytes span.start) (is_boundary bytes span.end) parts.1 in
      record {
        order = true_le span.start span.end parts.0;
        start = told_boundary span.start both.0;
        end = told_boundary span.end both.1;
      }

  pub part-told : (span : Span) → LiesIn bytes span → is_part bytes span ≡ true
  part-told span lies =
      and_from (nat_le span.start span.end) (is_boundary bytes span.start && is_boundary bytes span.end) (le_true span.start span.end lies.order)
      (and_from (is_boundary bytes span.start) (is_boundary bytes span.end) (boundary_told span.start lies.start) (boundary_told span.end lies.end))

  pub part-lies : (span : Span) → (is_part bytes span ≡ true) ↔ LiesIn bytes span
  part-lies span = (told_part span, part-told span)
