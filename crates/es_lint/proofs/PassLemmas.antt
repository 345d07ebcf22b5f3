-- The order of the fixes of a pass is one list, and a pass takes one exactly where there is one and the text isn't
-- too long.
use Rattle.std.proofs.Common.{◌≡◌, ◌∙◌, ℕ, zero, suc, ◌+◌, ◌<◌, ◌≤◌, Bool, true, false, ◌&&◌, ◌||◌, ◌==◌, not, cond, List, [], ◌∷◌, ◌++◌, length, slice_index_or, replicate, append_assoc, eq-eqb, refl, ap, sym, subst, arith}
use Rattle.std.specs.Prelude.{Option, Some, None, nat_le, if◌then◌else◌}
use Rattle.std.specs.Cmp.{IsTotalOrder, IsStrictWeakOrder}
use Rattle.std.specs.List.{All, AllByRecursion, cons_option, enumerate_from, filter, list_any}
use Rattle.std.specs.List.Sorted.{IsPermutation, IsStableBy, ties}
use Rattle.std.specs.Ordering.{is_lt, nat_cmp, ordering_reverse, ordering_then}
use Rattle.std.specs.declared.cmp.Ordering.{Ordering}
use Rattle.std.specs.declared.cmp.Ordering.TheVariants.{Equal, Greater, Less}
use Rattle.std.specs.Str.{chars, encode_utf8_all}
use Rattle.std.proofs.lemmas.Bool.{and_parts}
use Rattle.std.proofs.lemmas.Bool.Decides.{nat_tests}
use Rattle.std.proofs.lemmas.Cmp.{nat_cmp_total, on_total, then_total}
use Rattle.std.proofs.lemmas.List.Elements.{All-from_recursion}
use Rattle.std.proofs.lemmas.List.Folds.{list_any_at}
use Rattle.std.proofs.lemmas.List.FromFn.{get_or-enumerate_from, length-enumerate_from}
use Rattle.std.proofs.lemmas.List.MinMax.{ranks_by}
use Rattle.std.proofs.lemmas.List.Sorted.{All-permutation, length_permutation, sum_by-IsPermutation}
use Rattle.std.proofs.lemmas.List.Sums.{length-filter}
use Rattle.es_text.specs.SourceFaults.{most_bytes}
use Rattle.es_text.specs.declared.finding.Fix.{Fix}
use Rattle.es_text.specs.declared.finding.Report.{Report}
use Rattle.es_text.specs.Texts.{IsPlain, Text}
use Rattle.es_settings.specs.declared.mode.Mode.{Mode}
use Rattle.es_settings.specs.Sorting.{in_order}
use Rattle.es_settings.proofs.SortingLemmas.{sorted_in_order}
use Rattle.es_host.specs.Spans as spans
use Rattle.es_messages.specs.declared.fixing.Applied.{Applied}
use Rattle.es_messages.specs.Fixes.{Gives, IsInOrder, IsPass, Numbered, Tells, all_end_before, end_of, fixes_fit, goes_before, made, left, numbered_cmp, replaced, start_of, taken_behind, taken_of}
use Rattle.es_lint.specs.Passes as passes

numbers_total : IsTotalOrder numbered_cmp
numbers_total =
    then_total (on_total start_of nat_cmp_total) (then_total (on_total end_of nat_cmp_total) (on_total (λ (one : Numbered). one.0) nat_cmp_total))

numbers_order : IsStrictWeakOrder goes_before
numbers_order = ranks_by numbers_total (λ one. one)

-- ---- fixes that tie have one position

not_true : (b : Bool) → not b ≡ true → b ≡ false
not_true true is = cc
not_true false is = refl

equal_from : (a b : Ordering) → a ≡ ordering_reverse b → is_lt a ≡ false → is_lt b ≡ false → a ≡ Equal
equal_from Less b back one other = absurd (cc)
equal_from Equal b back one other = refl
equal_from Greater Less back one other = absurd (cc)
equal_from Greater Equal back one other = absurd (cc)
equal_from Greater Greater back one other = absurd (cc)

second_equal : (a b : Ordering) → ordering_then a b ≡ Equal → b ≡ Equal
second_equal Less b is = absurd (cc)
second_equal Equal b is = is
second_equal Greater b is = absurd (cc)

same_number : (a b : ℕ) → nat_cmp a b ≡ Equal → a ≡ b
same_number a b is = grind (arith, nat_tests, is)

same_place : (x y : Numbered) → ties goes_before x y ≡ true → x.0 ≡ y.0
same_place x y tie =
    let parts = and_parts (not (goes_before x y)) (not (goes_before y x)) tie in
    let all = equal_from (numbered_cmp x y) (numbered_cmp y x) (numbers_total.antisymm x y) (not_true _ parts.0) (not_true _ parts.1) in
    let later = second_equal (nat_cmp (start_of x) (start_of y)) (ordering_then (nat_cmp (end_of x) (end_of y)) (nat_cmp x.0 y.0)) all in
    same_number x.0 y.0 (second_equal (nat_cmp (end_of x) (end_of y)) (nat_cmp x.0 y.0) later)

-- ---- each fix stands at its position

last_at : (front : List Fix) (x : Fix) (xs : List Fix) (n : ℕ) (d : Fix) → length front ≡ n → x ≡ slice_index_or (front ++ x ∷ xs) n d
last_at [] x xs zero d is = refl
last_at [] x xs (suc n) d is = absurd (omega (arith, is))
last_at (y ∷ front) x xs zero d is = absurd (omega (arith, is))
last_at (y ∷ front) x xs (suc n) d is = last_at front x xs n d (omega (arith, is))

one_longer : (front : List Fix) (x : Fix) (n : ℕ) → length front ≡ n → length (front ++ x ∷ []) ≡ n + 1
one_longer [] x n is = omega (arith, is)
one_longer (y ∷ front) x zero is = absurd (omega (arith, is))
one_longer (y ∷ front) x (suc n) is = omega (arith, one_longer front x n (omega (arith, is)))

module _ (fixes : List Fix) (d : Fix) where
  abbrev Stands : Numbered → Type 0
  Stands one = one.1 ≡ slice_index_or fixes one.0 d

  all_stand : (front rest : List Fix) (n : ℕ) → front ++ rest ≡ fixes → length front ≡ n → AllByRecursion Stands (enumerate_from n rest)
  all_stand front [] n whole long = tt
  all_stand front (x ∷ rest) n whole long = (
    last_at front x rest n d long ∙ ap (λ xs. slice_index_or xs n d) whole,
    all_stand (front ++ x ∷ []) rest (n + 1) (append_assoc front (x ∷ []) rest ∙ whole) (one_longer front x n long),
  )

  -- those that tie with one that stands at its position are all that one
  module _ (z : Numbered) where
    abbrev tied : Numbered → Bool
    tied = ties goes_before z

    abbrev it : Numbered
    it = (z.0, slice_index_or fixes z.0 d)

    is_it : (x : Numbered) → Stands x → tied x ≡ true → x ≡ it
    is_it x stands tie =
        let place : z.0 ≡ x.0 = same_place z x tie in
        ap (λ (fix : Fix). let one : Numbered = (x.0, fix) in one) stands
        ∙ ap (λ (n : ℕ). let one : Numbered = (n, slice_index_or fixes n d) in one) (sym place)

    all_it : (xs : List Numbered) → AllByRecursion Stands xs → filter tied xs ≡ replicate (length (filter tied xs)) it
    all_it [] stand = refl
    all_it (x ∷ xs) stand = cases (tied x) refl (all_it xs stand.1)
      where
        cases : (b : Bool) → tied x ≡ b → filter tied xs ≡ replicate (length (filter tied xs)) it
            → cond b (x ∷ filter tied xs) (filter tied xs) ≡ replicate (length (cond b (x ∷ filter tied xs) (filter tied xs))) it
        cases true is rest = ap (λ y. y ∷ filter tied xs) (is_it x stand.0 is) ∙ ap (λ ys. it ∷ ys) rest
        cases false is rest = rest

-- ---- a list in order is the one list in order

recursion : {X : Type 0} (P : X → Type 0) (xs : List X) → All P xs → AllByRecursion P xs
recursion P [] all = tt
recursion P (x ∷ xs) all = (all 0 x (omega arith), recursion P xs (λ k d within. all (suc k) d (omega (arith, within))))

same_count : {X : Type 0} (p : X → Bool) (xs ys : List X) → IsPermutation xs ys → length (filter p ys) ≡ length (filter p xs)
same_count p xs ys all =
    length-filter p ys ∙ sum_by-IsPermutation (λ x. cond (p x) 1 0) xs ys all ∙ sym (length-filter p xs)

pub one_order : (fixes : List Fix) (order : List Numbered) → IsInOrder fixes order → order ≡ in_order goes_before (enumerate_from 0 fixes)
one_order fixes order is =
    sorted_in_order goes_before numbers_order (enumerate_from 0 fixes) order is.rises stable
  where
    given : List Numbered
    given = enumerate_from 0 fixes

    stable : IsStableBy goes_before given order
    stable z =
        let d : Fix = z.1 in
        let stand : AllByRecursion (Stands fixes d) given = all_stand fixes d [] fixes 0 refl refl in
        let stand' : AllByRecursion (Stands fixes d) order =
        recursion (Stands fixes d) order (All-permutation (Stands fixes d) given order is.each_once (All-from_recursion (Stands fixes d) given stand)) in
        all_it fixes d z order stand'
        ∙ ap (λ n. replicate n (it fixes d z)) (same_count (tied fixes d z) given order is.each_once)
        ∙ sym (all_it fixes d z given stand)

-- ---- a pass of fixes takes the first

either : (P : List Numbered → Type 0) (b : Bool) (xs ys : List Numbered) → P xs → P ys → P (cond b xs ys)
either P true xs ys first second = first
either P false xs ys first second = second

abbrev Begins : Numbered → List Numbered → Type 0
Begins one all = (rest : List Numbered) × (all ≡ one ∷ rest)

-- what is taken stays taken
stays : (one : Numbered) (earlier order : List Numbered) → Begins one (taken_behind (one ∷ earlier) order)
stays one earlier [] = (earlier, refl)
stays one earlier (other ∷ later) =
    either (Begins one) (all_end_before other (one ∷ earlier)) (taken_behind (one ∷ (earlier ++ other ∷ [])) later) (taken_behind (one ∷ earlier) later)
    (stays one (earlier ++ other ∷ []) later) (stays one earlier later)

same_or : (m n : ℕ) (b : Bool) → m ≡ n → ((m == n) || b) ≡ true
same_or m n b is = ap (λ t. t || b) (eq-eqb m n is)

first_taken : (one : Numbered) (later : List Numbered) → list_any (λ other. other.0 == one.0) (taken_of (one ∷ later)) ≡ true
first_taken one later =
    let begins : Begins one (taken_of (one ∷ later)) = stays one [] later in
    ap (list_any (λ other. other.0 == one.0)) begins.1 ∙ same_or one.0 one.0 (list_any (λ other. other.0 == one.0) begins.0) refl

-- the positions of fixes in order are below their number
below : (fixes : List Fix) (order : List Numbered) → IsInOrder fixes order → All (λ one. one.0 < length fixes) order
below fixes order is =
    All-permutation (λ one. one.0 < length fixes) (enumerate_from 0 fixes) order is.each_once
    (λ k d within.
    let inside : k < length fixes = omega (arith, length-enumerate_from 0 fixes) in
    subst (λ (one : Numbered). one.0 < length fixes) (sym (get_or-enumerate_from 0 fixes k d inside)) (omega arith))

-- ---- the flags of a pass

none_set : (flags : List Bool) → ((k : ℕ) → k < length flags → slice_index_or flags k false ≡ false) → list_any (λ taken. taken) flags ≡ false
none_set [] none = refl
none_set (flag ∷ flags) none =
    ap (λ b. b || list_any (λ taken. taken) flags) (none 0 (omega arith))
    ∙ none_set flags (λ k within. none (suc k) (omega (arith, within)))

none_taken : (count : ℕ) (flags : List Bool) → Tells [] count flags → list_any (λ taken. taken) flags ≡ false
none_taken count flags tells =
    none_set flags (λ k within. tells.each k (omega (arith, tells.long, within)))

some_taken : (fixes : List Fix) (order : List Numbered) (flags : List Bool) → IsInOrder fixes order → 0 < length fixes →
    Tells (taken_of order) (length fixes) flags → list_any (λ taken. taken) flags ≡ true
some_taken fixes [] flags is some tells =
    let none : 0 ≡ length fixes = length_permutation (enumerate_from 0 fixes) [] is.each_once ∙ length-enumerate_from 0 fixes in
    absurd (omega (arith, none, some))
some_taken fixes (one ∷ later) flags is some tells =
    let within : one.0 < length fixes = below fixes (one ∷ later) is 0 one (omega arith) in
    list_any_at (λ taken. taken) flags one.0 false (omega (arith, tells.long, within)) (tells.each one.0 within ∙ first_taken one later)

-- ---- a pass

le_true : (m n : ℕ) → m ≤ n → nat_le m n ≡ true
le_true m n le = grind (arith, nat_tests, le)

le_false : (m n : ℕ) → n < m → nat_le m n ≡ false
le_false m n lt = grind (arith, nat_tests, lt)

module _ (bytes : List ℕ) (applied : Applied) where
  -- the one list of the taken ones
  same_made : (fixes : List Fix) (order : List Numbered) → IsInOrder fixes order → replaced bytes 0 (taken_of order) ≡ passes.made bytes fixes
  same_made fixes order is = ap (λ all. replaced bytes 0 (taken_of all)) (one_order fixes order is)

  takes_some : (fix : Fix) (fixes : List Fix) (order : List Numbered) → IsInOrder (fix ∷ fixes) order →
      Gives bytes (length (fix ∷ fixes)) (taken_of order) applied → list_any (λ taken. taken) applied.taken ≡ passes.takes_one bytes (fix ∷ fixes)
  takes_some fix fixes order is (made short text tells) =
      some_taken (fix ∷ fixes) order applied.taken is (omega arith) tells
      ∙ sym (le_true (length (passes.made bytes (fix ∷ fixes))) most_bytes (subst (λ all. length all ≤ most_bytes) (same_made (fix ∷ fixes) order is) short))
  takes_some fix fixes order is (left long text tells) =
      none_taken (length (fix ∷ fixes)) applied.taken tells
      ∙ sym (le_false (length (passes.made bytes (fix ∷ fixes))) most_bytes (subst (λ all. most_bytes < length all) (same_made (fix ∷ fixes) order is) long))

  no_flags : (flags : List Bool) (count : ℕ) → length flags ≡ count → count ≡ 0 → list_any (λ taken. taken) flags ≡ false
  no_flags [] count long none = refl
  no_flags (flag ∷ flags) count long none = absurd (omega (arith, long, none))

  takes_none : (order : List Numbered) → Gives bytes 0 (taken_of order) applied → list_any (λ taken. taken) applied.taken ≡ false
  takes_none order (made short text tells) = no_flags applied.taken 0 tells.long refl
  takes_none order (left long text tells) = no_flags applied.taken 0 tells.long refl

  -- a flag is set exactly where the pass takes one
  pub takes : (fixes : List Fix) → IsPass bytes fixes applied → list_any (λ taken. taken) applied.taken ≡ passes.takes_one bytes fixes
  takes [] is = takes_none is.order is.gives
  takes (fix ∷ fixes) is = takes_some fix fixes is.order is.in_order is.gives

  -- and then the text is this
  makes_by : (fixes : List Fix) (order : List Numbered) → IsInOrder fixes order → Gives bytes (length fixes) (taken_of order) applied →
      list_any (λ taken. taken) applied.taken ≡ true → (encode_utf8_all applied.text ≡ passes.made bytes fixes) × (length (encode_utf8_all applied.text) ≤ most_bytes)
  makes_by fixes order is (made short text tells) some =
      (text ∙ same_made fixes order is, subst (λ all. length all ≤ most_bytes) (sym text) short)
  makes_by fixes order is (left long text tells) some =
      let none : list_any (λ taken. taken) applied.taken ≡ false = none_taken (length fixes) applied.taken tells in
      absurd (cc)

  pub makes : (fixes : List Fix) → IsPass bytes fixes applied → list_any (λ taken. taken) applied.taken ≡ true →
      (encode_utf8_all applied.text ≡ passes.made bytes fixes) × (length (encode_utf8_all applied.text) ≤ most_bytes)
  makes fixes is some = makes_by fixes is.order is.in_order is.gives some

  -- whether a pass takes one, and the text after it
  pub takes_of : (given fixes : List Fix) → given ≡ fixes → IsPass bytes given applied → list_any (λ taken. taken) applied.taken ≡ passes.takes_one bytes fixes
  takes_of given fixes same is = takes given is ∙ ap (passes.takes_one bytes) same

  pub after_of : (given fixes : List Fix) (next : Text) → given ≡ fixes → IsPass bytes given applied → list_any (λ taken. taken) applied.taken ≡ true →
      IsPlain (chars (encode_utf8_all applied.text)) next → next ≡ passes.after bytes fixes
  after_of given fixes next same is some plain =
      let characters : next.characters ≡ chars (passes.made bytes fixes) =
      plain.0 ∙ ap chars (makes given is some).0 ∙ ap (λ all. chars (passes.made bytes all)) same in
      ap (λ (all : List ℕ). let text : Text = record { characters = all; marked = next.marked } in text) characters
      ∙ ap (λ (mark : Bool). let text : Text = record { characters = chars (passes.made bytes fixes); marked = mark } in text) plain.1

-- ---- the fixes of a pass lie in the text

module _ (bytes : List ℕ) where
  chosen_fits : (may : Bool) (fix : Option Fix) → spans.fix_fits bytes fix ≡ true → spans.fix_fits bytes (if may then fix else None) ≡ true
  chosen_fits true fix fits = fits
  chosen_fits false fix fits = refl

  cons_fits : (fix : Option Fix) (fixes : List Fix) → spans.fix_fits bytes fix ≡ true → fixes_fit bytes fixes ≡ true → fixes_fit bytes (cons_option fix fixes) ≡ true
  cons_fits None fixes fits rest = rest
  cons_fits (Some fix) fixes fits rest = ap (λ b. b && fixes_fit bytes fixes) fits ∙ rest

  pub fixes_in_fit : (mode : Mode) (reports : List Report) → spans.fixes_fit bytes reports ≡ true → fixes_fit bytes (passes.fixes_in mode reports) ≡ true
  fixes_in_fit mode [] fits = refl
  fixes_in_fit mode (report ∷ reports) fits =
      let both = and_parts (spans.fix_fits bytes report.fix) (spans.fixes_fit bytes reports) fits in
      cons_fits (passes.fix_in mode report) (passes.fixes_in mode reports) (chosen_fits (passes.may_take mode report.severity) report.fix both.0) (fixes_in_fit mode reports both.1)
