-- What the searches in rows find.
use Rattle.std.proofs.Common.{◌≡◌, ◌≢◌, ◌∙◌, ℕ, suc, zero, ◌+◌, ◌-◌, ◌<◌, ◌≤◌, min, Bool, true, false, cond, List, [], ◌∷◌, ◌++◌, length, map, reverse, get_or, take, drop, nat_eq, refl, sym, ap, inl, inr, subst, arith, Option, Some, None, IfSome, IfNone, All, Contains, Bor}
use mathlib.Core.Bool.{false≢true}
use Rattle.std.specs.Prelude.{AllPairs, find, take_while, MatchOption}
use Rattle.std.specs.declared.cmp.Ordering.{Ordering}
use Rattle.std.specs.declared.cmp.Ordering.TheVariants.{Less, Equal, Greater}
use Rattle.std.specs.Ordering.{nat_cmp, is_gt, is_le, is_lt, is_eq, ordering_reverse, ordering_index, is_some_and}
use Rattle.std.specs.Cmp.Lexicographic.{slice_cmp, slice_partial_cmp, lists_agrees, bytes_decides, texts_ties}
use Rattle.std.specs.List.{starts_with}
use Rattle.std.specs.List.Sorted.{IsPartitionedBy, IsPartitionPoint, IsSortedBy, IsNonDecreasingBy}
use Rattle.std.specs.Option.{option_copied}
use Rattle.std.proofs.Math.ListN.{get_or-map}
use Rattle.std.proofs.lemmas.Bool.{cases_lt}
use Rattle.std.proofs.lemmas.Cmp.{nat_list_cmp_total, upto, tied_itself}
use Rattle.std.proofs.lemmas.List.{length-map, length-reverse, get_or-reverse, take-append-drop, get_or-take, get_or-drop, length-take, length-drop}
use Rattle.std.proofs.lemmas.List.Elements.{All-cons, All-tail, All-append, All-map, All-take, All-contains, Contains-append_left}
use Rattle.std.proofs.lemmas.List.Sums.{take_while-cons}
use Rattle.std.proofs.lemmas.List.Sorted.{searchable_from_sorted, IsPermutation-reverse, IsPermutation-sym, All-permutation, Contains-permutation}
use Rattle.es_tables.specs.declared.row.Row.{Row}
use Rattle.es_tables.specs.Rows.{entries, HasRow, IsOrdered, IsPrefix, IsLongestPrefix}
use Rattle.es_tables.specs.Searches.{begins_like, last_prefix_in}
use Rattle.es_tables.proofs.PrefixLemmas.{prefix_not_after, earlier_is_shorter, prefix_begins_like, no_prefix_before}

-- the text of the first comes before that of the second
abbrev Before : Row → Row → Type 0
Before row later = slice_cmp nat_cmp row.text.now later.text.now ≡ Less

abbrev IsAfter : Row → Row → Type 0
IsAfter row earlier = Before earlier row

abbrev IsFilled : Row → Type 0
IsFilled row = row.text.now ≢ []

AllPairs-tail : {X : Type 0} (R : X → X → Type 0) (x : X) (xs : List X) → AllPairs R (x ∷ xs) → AllPairs R xs
AllPairs-tail R x xs all i j d lt within = all (suc i) (suc j) d (omega arith) (omega arith)

AllPairs-head : {X : Type 0} (R : X → X → Type 0) (x : X) (xs : List X) → AllPairs R (x ∷ xs) → All (R x) xs
AllPairs-head R x xs all k d within = all zero (suc k) d (omega arith) (omega arith)

AllPairs-reverse : {X : Type 0} (R : X → X → Type 0) (xs : List X) → AllPairs R xs → AllPairs (λ x y. R y x) (reverse xs)
AllPairs-reverse R xs all i j d lt within =
    let short : j < length xs = rw (← length-reverse xs) within in
    rw (get_or-reverse xs i d (omega arith), get_or-reverse xs j d short)
    (all _ _ d (omega arith) (omega arith))

Contains-cons : {X : Type 0} (y x : X) (xs : List X) → Contains xs x → Contains (y ∷ xs) x
Contains-cons y x xs (k, within, is) = (suc k, omega arith, is)

Contains-map : {X Y : Type 0} (f : X → Y) (xs : List X) (x : X) → Contains xs x → Contains (map f xs) (f x)
Contains-map f xs x (k, within, is) = (k, rw length-map within, get_or-map f xs k x ∙ ap f is)

-- what holds of each row's text holds of one that a row has
from_row : (P : List ℕ → Type 0) (rows : List Row) → All (λ row. P row.text.now) rows → (text : List ℕ) (code : ℕ) → HasRow rows text code → P text
from_row P rows each text code there =
    All-contains (λ e. P e.0) (entries rows) (text, code) (All-map (λ e. P e.0) (λ row. (row.text.now, row.code)) rows each) there

not_gt : (o : Ordering) → is_le o ≡ true → is_gt o ≡ false
not_gt Less le = refl
not_gt Equal le = refl
not_gt Greater le = absurd (false≢true le)

le_from_not_gt : (o : Ordering) → is_gt o ≡ false → is_le o ≡ true
le_from_not_gt Less le = refl
le_from_not_gt Equal le = refl
le_from_not_gt Greater le = absurd (false≢true (sym le))

module _ (bytes : List ℕ) where
  abbrev pub fits : Row → Bool
  fits row = starts_with nat_eq bytes row.text.now

  abbrev begins : Row → Bool
  begins = begins_like bytes

  -- the row's text comes no later than the bytes
  abbrev pub is_not_after : Row → Bool
  is_not_after row = is_le (slice_cmp nat_cmp row.text.now bytes)

  abbrev pub IsNone : Row → Type 0
  IsNone row = fits row ≡ false

  abbrev IsNotAfter : Row → Type 0
  IsNotAfter row = is_not_after row ≡ true

  -- where the other is a prefix, it is no longer
  abbrev pub IsNoLonger : Row → Row → Type 0
  IsNoLonger row other = fits other ≡ true → length other.text.now ≤ length row.text.now

  pub record Best (rows : List Row) (row : Row) : Type 0 where
    pub stands : Contains rows row
    pub is_prefix : fits row ≡ true
    pub longest : All (IsNoLonger row) rows

  -- what was found is the best, and where nothing was, none is a prefix
  abbrev pub Outcome : List Row → Option Row → Type 0
  Outcome rows r = MatchOption r (All IsNone rows) (Best rows)

  -- a first row that is no prefix changes nothing
  past_first : (row : Row) (rest : List Row) → fits row ≡ false → (r : Option Row) → Outcome rest r → Outcome (row ∷ rest) r
  past_first row rest differs None none = All-cons IsNone row rest differs none
  past_first row rest differs (Some found) best = record {
    stands = Contains-cons row found rest best.stands;
    is_prefix = best.is_prefix;
    longest = All-cons (IsNoLonger found) row rest (λ is. absurd (false≢true (sym differs ∙ is))) best.longest;
  }

  searched_first : (b : Bool) (row : Row) (rest : List Row)
      → find fits (cond b (row ∷ rest) []) ≡ cond b (cond (fits row) (Some row) (find fits rest)) None
  searched_first true row rest = refl
  searched_first false row rest = refl

  -- the search at a first row, where the outcome below it is known
  search_first : (row : Row) (rest : List Row) → All (λ other. Before other row) rest → All IsFilled (row ∷ rest)
      → is_not_after row ≡ true → (found : Option Row) → Outcome rest found
      → (b f : Bool) → begins row ≡ b → fits row ≡ f → Outcome (row ∷ rest) (cond b (cond f (Some row) found) None)
  search_first row rest earlier filled before found below true true same prefix = record {
    stands = (zero, omega arith, refl);
    is_prefix = prefix;
    longest = All-cons (IsNoLonger row) row rest (λ _. omega arith)
        (λ k d within fitting. earlier_is_shorter _ _ bytes (earlier k d within) fitting prefix);
  }
  search_first row rest earlier filled before found below true false same differs = past_first row rest differs found below
  search_first row rest earlier filled before found below false true other prefix =
      absurd (false≢true (sym other ∙ prefix_begins_like row.text.now bytes (filled zero row (omega arith)) prefix))
  search_first row rest earlier filled before found below false false other differs = All-cons IsNone row rest differs
      (λ k d within. no_prefix_before _ row.text.now bytes (earlier k d within) (not_gt _ before) other (All-tail IsFilled row rest filled k d within))

  -- the search from the last row on, down to the first that begins otherwise
  search_falling : (rows : List Row) → AllPairs IsAfter rows
      → All IsFilled rows → All IsNotAfter rows
      → Outcome rows (find fits (take_while begins rows))
  search_falling [] falling filled before = λ k d within. absurd (omega arith)
  search_falling (row ∷ rest) falling filled before =
      let below = search_falling rest (AllPairs-tail IsAfter row rest falling) (All-tail IsFilled row rest filled) (All-tail IsNotAfter row rest before) in
      rw (take_while-cons begins row rest, searched_first (begins row) row (take_while begins rest))
      (search_first row rest (AllPairs-head IsAfter row rest falling) filled (before zero row (omega arith)) _ below (begins row) (fits row) refl refl)

  Outcome-reverse : (rows : List Row) (r : Option Row) → Outcome (reverse rows) r → Outcome rows r
  Outcome-reverse rows None none = All-permutation IsNone _ _ (IsPermutation-sym _ _ (IsPermutation-reverse rows)) none
  Outcome-reverse rows (Some found) best =
      let back = IsPermutation-sym _ _ (IsPermutation-reverse rows) in
      record {
        stands = Contains-permutation _ _ found back best.stands;
        is_prefix = best.is_prefix;
        longest = All-permutation (IsNoLonger found) _ _ back best.longest;
      }

  Outcome-append : (front back : List Row) → All IsNone back → (r : Option Row) → Outcome front r → Outcome (front ++ back) r
  Outcome-append front back none None outcome = All-append IsNone front back outcome none
  Outcome-append front back none (Some found) best = record {
    stands = Contains-append_left front back found best.stands;
    is_prefix = best.is_prefix;
    longest = All-append (IsNoLonger found) front back best.longest (λ k d within fitting. absurd (false≢true (sym (none k d within) ∙ fitting)));
  }

  no_prefix_after : (row : Row) (f : Bool) → fits row ≡ f → is_not_after row ≡ false → fits row ≡ false
  no_prefix_after row false is after = is
  no_prefix_after row true is after =
      absurd (false≢true (sym after ∙ le_from_not_gt _ (prefix_not_after row.text.now bytes is)))

  -- the clauses of a search with that outcome
  pub answer_stands : (rows : List Row) (r : Option (Bor Row)) → Outcome rows (option_copied r)
      → IfSome r (λ row. HasRow rows row.now.text.now row.now.code)
  answer_stands rows None outcome = tt
  answer_stands rows (Some row) best = Contains-map (λ row. (row.text.now, row.code)) rows row.now best.stands

  pub answer_is_longest : (rows : List Row) (r : Option (Bor Row)) → Outcome rows (option_copied r)
      → IfSome r (λ row. IsLongestPrefix rows bytes row.now.text.now)
  answer_is_longest rows None outcome = tt
  answer_is_longest rows (Some row) best = record {
    prefix = best.is_prefix;
    longest = from_row (λ other. IsPrefix other bytes → length other ≤ length row.now.text.now) rows best.longest;
  }

  pub none_is_prefix : (rows : List Row) (r : Option (Bor Row)) → Outcome rows (option_copied r)
      → IfNone r ((text : List ℕ) (code : ℕ) → HasRow rows text code → IsPrefix text bytes → ⊥)
  none_is_prefix rows None none = from_row (λ text. IsPrefix text bytes → ⊥) rows
      (λ k d within prefix. false≢true (sym (none k d within) ∙ prefix))
  none_is_prefix rows (Some row) best = tt

  module _ (rows : List Row) (ordered : IsOrdered rows) where
    -- the rows that come no later than the bytes stand first
    pub are_parted : IsPartitionedBy is_not_after rows
    are_parted i j d le within before = elim (cases_lt i j) [
      | inl lt ↦ le_from_not_gt _ (upto nat_list_cmp_total (get_or rows i d).text.now (get_or rows j d).text.now bytes (ap is_gt (ordered.increasing i j d lt within)) (not_gt _ before))
      | inr ge ↦ let same : i ≡ j = omega arith in subst (λ k. is_not_after (get_or rows k d) ≡ true) (sym same) before
    ]

    -- what the search in the rows before `end` finds is what is to be found in all
    pub search_outcome : (end : ℕ) → IsPartitionPoint (λ row. is_not_after row ≡ true) (λ row. is_not_after row ≡ false) rows end
        → Outcome rows (last_prefix_in bytes (take end rows))
    search_outcome end parted =
        let front = take end rows in
        let back = drop end rows in
        let rising : AllPairs Before front = λ i j d lt within.
        let bound : j < min end (length rows) = rw (← length-take end rows) within in
        rw (get_or-take end rows i d (omega arith), get_or-take end rows j d (omega arith))
        (ordered.increasing i j d lt (omega arith)) in
        let before : All IsNotAfter front = λ k d within.
        let bound : k < min end (length rows) = rw (← length-take end rows) within in
        rw (get_or-take end rows k d (omega arith)) (parted.0 k d (omega arith) (omega arith)) in
        let none : All IsNone back = λ k d within.
        let bound : k < length rows - end = rw (← length-drop end rows) within in
        rw (get_or-drop end rows k d) (no_prefix_after (get_or rows (end + k) d) _ refl (parted.1 (end + k) d (omega arith) (omega arith))) in
        let turned = IsPermutation-reverse front in
        let outcome = search_falling (reverse front) (AllPairs-reverse Before front rising)
        (All-permutation IsFilled _ _ turned (All-take IsFilled end rows ordered.filled)) (All-permutation IsNotAfter _ _ turned before) in
        subst (λ all. Outcome all (last_prefix_in bytes front)) (take-append-drop end rows)
        (Outcome-append front back none _ (Outcome-reverse front _ outcome))

-- what `<=` of two texts says
pub le_tested : (text other : List ℕ) → is_some_and is_le (slice_partial_cmp (λ x y. Some (nat_cmp x y)) text other) ≡ is_le (slice_cmp nat_cmp text other)
le_tested text other = ap (is_some_and is_le) (lists_agrees (λ x y. refl) text other)

-- ---- the search for a text

rise_to_fall : (rows : List Row) → AllPairs Before rows → IsSortedBy (λ row later. is_lt (slice_cmp nat_cmp row.text.now later.text.now)) rows
rise_to_fall rows rise k d low within =
    let later = (get_or rows (k + 1) d).text.now in
    let text = (get_or rows k d).text.now in
    ap is_lt (nat_list_cmp_total.antisymm later text ∙ ap ordering_reverse (rise k (k + 1) d (omega arith) within))

-- the comparisons with a text rise, as a binary search asks
pub comparisons_rise : (rows : List Row) → IsOrdered rows → (text : List ℕ)
    → IsNonDecreasingBy (λ row. ordering_index (slice_cmp nat_cmp row.text.now text)) rows
comparisons_rise rows ordered text =
    searchable_from_sorted nat_list_cmp_total (λ row. row.text.now) rows text (rise_to_fall rows ordered.increasing)

pub equal_texts : (text other : List ℕ) → slice_cmp nat_cmp text other ≡ Equal → text ≡ other
equal_texts text other equal = (bytes_decides text other).0 (texts_ties text other ∙ ap is_eq equal)

-- between smaller and greater texts there is none that is equal
pub none_is_equal : (rows : List Row) (text : List ℕ) (at : ℕ)
    → IsPartitionPoint (λ row. slice_cmp nat_cmp row.text.now text ≡ Less) (λ row. slice_cmp nat_cmp row.text.now text ≡ Greater) rows at
    → (code : ℕ) → HasRow rows text code → ⊥
none_is_equal rows text at parted code there = from_row (λ other. other ≢ text) rows (λ k d within same.
    let equal : slice_cmp nat_cmp (get_or rows k d).text.now text ≡ Equal = rw same (tied_itself nat_list_cmp_total text) in
    elim (cases_lt k at) [
      | inl lt ↦ false≢true (ap is_eq (sym (parted.0 k d (omega arith) lt) ∙ equal))
      | inr ge ↦ false≢true (ap is_eq (sym (parted.1 k d ge within) ∙ equal))
    ]) text code there refl
