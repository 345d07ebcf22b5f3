-- Fixes in order, and the taken ones among them.
use Rattle.std.proofs.Common.{◌≡◌, ◌∙◌, ℕ, ◌+◌, ◌<◌, ◌≤◌, Bool, true, false, ◌&&◌, cond, List, [], ◌∷◌, ◌++◌, length, map, slice_index_or, refl, sym, ap, subst, arith, Option, None, Some}
use Rattle.std.specs.Prelude.{nat_lt, nat_le}
use Rattle.std.specs.Cmp.{IsStrictWeakOrder}
use Rattle.std.specs.List.{All, AllByRecursion, enumerate_from, list_all}
use Rattle.std.specs.List.Sorted.{IsPermutation}
use Rattle.std.specs.Ordering.{is_lt}
use Rattle.std.proofs.lemmas.Bool.{and_parts, lt-ltb, ltb-true}
use Rattle.std.proofs.lemmas.Cmp.{nat_cmp_total, on_total, then_total}
use Rattle.std.proofs.lemmas.List.Elements.{recursion_from_All}
use Rattle.std.proofs.lemmas.List.Folds.{list_all-append}
use Rattle.std.proofs.lemmas.List.FromFn.{get_or-enumerate_from, length-enumerate_from}
use Rattle.std.proofs.lemmas.List.MinMax.{ranks_by}
use Rattle.std.proofs.lemmas.List.Sorted.{All-permutation}
use Rattle.std.proofs.lemmas.List.Sums.{AllPass-from_list_all}
use Rattle.es_text.specs.Spans.{LiesIn, PartsLie, is_part}
use Rattle.es_text.specs.declared.finding.Fix.{Fix}
use Rattle.es_messages.specs.declared.fixing.NumberedFix.{NumberedFix}
use Rattle.es_messages.specs.Fixes.{IsInOrder, Numbered, all_end_before, end_of, fixes_fit, goes_before, numbered_cmp, start_of, taken_behind, taken_of}
use Rattle.es_messages.specs.NumberedFixes.{CanReplace, may_start, seen}

pub fixes_order : IsStrictWeakOrder (λ (x y : NumberedFix). is_lt (numbered_cmp (seen x) (seen y)))
fixes_order =
    ranks_by
    (then_total (on_total start_of nat_cmp_total) (then_total (on_total end_of nat_cmp_total) (on_total (λ one. one.0) nat_cmp_total)))
    seen

-- one more that is gone through
pub taken-yes : (taken : List Numbered) (one : Numbered) (later all : List Numbered) → all_end_before one taken ≡ true → taken_behind taken (one ∷ later) ≡ all → taken_behind (taken ++ one ∷ []) later ≡ all
taken-yes taken one later all passes is =
    sym (ap (λ b. cond b (taken_behind (taken ++ one ∷ []) later) (taken_behind taken later)) passes) ∙ is

pub taken-no : (taken : List Numbered) (one : Numbered) (later all : List Numbered) → all_end_before one taken ≡ false → taken_behind taken (one ∷ later) ≡ all → taken_behind taken later ≡ all
taken-no taken one later all fails is =
    sym (ap (λ b. cond b (taken_behind (taken ++ one ∷ []) later) (taken_behind taken later)) fails) ∙ is

absorbs : (a b : Bool) → (b ≡ true → a ≡ true) → (a && (b && true)) ≡ b
absorbs true true h = refl
absorbs true false h = refl
absorbs false true h = h refl
absorbs false false h = refl

may_before : (last : Option ℕ) (start end to : ℕ) → may_start last start ≡ true → start ≤ end → nat_lt end to ≡ true → may_start last to ≡ true
may_before None start end to may low less = refl
may_before (Some other) start end to may low less =
    let first : other < start = ltb-true other start may in
    let second : end < to = ltb-true end to less in
    lt-ltb other to (omega (arith, first, second))

-- behind one more that is taken, the last end is its own
pub last-yes : (taken : List Numbered) (one : Numbered) (last : Option ℕ) → ((start : ℕ) → list_all (λ other. nat_lt (end_of other) start) taken ≡ may_start last start) → may_start last (start_of one) ≡ true → start_of one ≤ end_of one → (start : ℕ) → list_all (λ other. nat_lt (end_of other) start) (taken ++ one ∷ []) ≡ may_start (Some (end_of one)) start
last-yes taken one last is may low start =
    list_all-append (λ other. nat_lt (end_of other) start) taken (one ∷ [])
    ∙ ap (λ b. b && (nat_lt (end_of one) start && true)) (is start)
    ∙ absorbs (may_start last start) (nat_lt (end_of one) start) (may_before last (start_of one) (end_of one) start may low)

-- a fix whose span lies in the text, at a position below their number
pub record IsSound (bytes : List ℕ) (count : ℕ) (one : Numbered) : Type 0 where
  pub lies : LiesIn bytes one.1.span
  pub below : one.0 < count

-- such are all in their order
pub sound_order : (bytes : List ℕ) (fixes : List Fix) (order : List Numbered) → PartsLie → fixes_fit bytes fixes ≡ true → IsInOrder fixes order → All (IsSound bytes (length fixes)) order
sound_order bytes fixes order parts fit in_order =
    All-permutation (IsSound bytes (length fixes)) (enumerate_from 0 fixes) order in_order.each_once
    (λ k d within.
    let inside : k < length fixes = omega (arith, length-enumerate_from 0 fixes) in
    rw (get_or-enumerate_from 0 fixes k d inside) (record {
      lies = (parts bytes (slice_index_or fixes k d.1).span).0 (AllPass-from_list_all (λ fix. is_part bytes fix.span) fixes fit k d.1 inside);
      below = omega arith;
    }))

pushed_all : (P : Numbered → Type 0) (xs : List Numbered) (one : Numbered) → AllByRecursion P xs → P one → AllByRecursion P (xs ++ one ∷ [])
pushed_all P [] one all own = (own, tt)
pushed_all P (x ∷ xs) one all own = (all.0, pushed_all P xs one all.1 own)

either : (P : List Numbered → Type 0) (b : Bool) (xs ys : List Numbered) → P xs → P ys → P (cond b xs ys)
either P true xs ys first second = first
either P false xs ys first second = second

-- what holds of all, holds of those that are taken
kept_all : (P : Numbered → Type 0) (taken order : List Numbered) → AllByRecursion P taken → AllByRecursion P order → AllByRecursion P (taken_behind taken order)
kept_all P taken [] own all = own
kept_all P taken (one ∷ later) own all =
    either (AllByRecursion P) (all_end_before one taken) (taken_behind (taken ++ one ∷ []) later) (taken_behind taken later)
    (kept_all P (taken ++ one ∷ []) later (pushed_all P taken one own all.0) all.1) (kept_all P taken later own all.1)

pub taken_all : (P : Numbered → Type 0) (order : List Numbered) → All P order → AllByRecursion P (taken_of order)
taken_all P order all = kept_all P [] order tt (recursion_from_All P order all)

-- where the last of these ends, which are taken from an offset on
abbrev ends : ℕ → List Numbered → ℕ
ends at [] = at
ends at (one ∷ later) = ends (end_of one) later

chain_push : (bytes : List ℕ) (at : ℕ) (xs : List Numbered) (one : Numbered) → CanReplace bytes at xs → ends at xs ≤ start_of one → LiesIn bytes one.1.span → CanReplace bytes at (xs ++ one ∷ [])
chain_push bytes at [] one can low lies = (low, (lies, tt))
chain_push bytes at (x ∷ xs) one can low lies = (can.0, (can.1.0, chain_push bytes (end_of x) xs one can.1.1 low lies))

ends_low : (at start : ℕ) (xs : List Numbered) → list_all (λ other. nat_lt (end_of other) start) xs ≡ true → at ≤ start → ends at xs ≤ start
ends_low at start [] all low = low
ends_low at start (x ∷ xs) all low =
    let both = and_parts (nat_lt (end_of x) start) (list_all (λ other. nat_lt (end_of other) start) xs) all in
    let less : end_of x < start = ltb-true (end_of x) start both.0 in
    ends_low (end_of x) start xs both.1 (omega (arith, less))

either_way : (P : List Numbered → Type 0) (b : Bool) (xs ys : List Numbered) → (b ≡ true → P xs) → P ys → P (cond b xs ys)
either_way P true xs ys first second = first refl
either_way P false xs ys first second = second

chain_taken : (bytes : List ℕ) (taken order : List Numbered) → CanReplace bytes 0 taken → AllByRecursion (λ one. LiesIn bytes one.1.span) order → CanReplace bytes 0 (taken_behind taken order)
chain_taken bytes taken [] can all = can
chain_taken bytes taken (one ∷ later) can all =
    either_way (CanReplace bytes 0) (all_end_before one taken) (taken_behind (taken ++ one ∷ []) later) (taken_behind taken later)
    (λ is. chain_taken bytes (taken ++ one ∷ []) later
    (chain_push bytes 0 taken one can (ends_low 0 (start_of one) taken is (omega arith)) all.0) all.1)
    (chain_taken bytes taken later can all.1)

-- those that are taken can be replaced
pub can_replace : (bytes : List ℕ) (order : List Numbered) → All (λ one. LiesIn bytes one.1.span) order → CanReplace bytes 0 (taken_of order)
can_replace bytes order all = chain_taken bytes [] order tt (recursion_from_All (λ one. LiesIn bytes one.1.span) order all)
