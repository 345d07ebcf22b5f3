-- The rows of a table against the list of its words: the checker computes over the whole table that its
-- rows are the words, numbered and sorted, and that they rise; these lemmas turn that into the rules.
use Rattle.std.proofs.Common.{◌≡◌, ◌≢◌, ℕ, suc, zero, ◌+◌, ◌-◌, ◌≤◌, Bool, true, false, ◌&&◌, cond, List, [], ◌∷◌, length, nat_lt, refl, sym, ap, subst, inl, inr, arith, Some, All, Contains, slice_get}
use mathlib.Core.Bool.{false≢true}
use Rattle.std.specs.Prelude.{◌⊎◌, ◌↔◌, AllPairs}
use Rattle.std.specs.declared.cmp.Ordering.{Ordering}
use Rattle.std.specs.declared.cmp.Ordering.TheVariants.{Less, Equal, Greater}
use Rattle.std.specs.Ordering.{nat_cmp, is_lt}
use Rattle.std.specs.Cmp.{first_so, second_so}
use Rattle.std.specs.Cmp.Lexicographic.{slice_cmp}
use Rattle.std.specs.List.{list_all}
use Rattle.std.proofs.lemmas.List.Elements.{All-weaker}
use Rattle.std.proofs.lemmas.List.Sums.{AllPass-from_list_all}
use Rattle.std.proofs.lemmas.Option.{same_Some}
use Rattle.std.proofs.lemmas.List.Kept.{AllPairs-cons}
use Rattle.es_tables.specs.declared.row.Row.{Row}
use Rattle.es_tables.specs.Rows.{IsOrdered}

-- ---- the order

abbrev is_before : List ℕ → List ℕ → Bool
is_before text later = is_lt (slice_cmp nat_cmp text later)

abbrev comes_before : Row → Row → Bool
comes_before row later = is_before row.text.now later.text.now

-- each row's text comes before that of each later one
abbrev pub rises : List Row → Bool
rises [] = true
rises (row ∷ rest) = list_all (comes_before row) rest && rises rest

abbrev pub has_bytes : Row → Bool
has_bytes row = nat_lt 0 (length row.text.now)

abbrev Before : Row → Row → Type 0
Before row later = slice_cmp nat_cmp row.text.now later.text.now ≡ Less

less : (o : Ordering) → is_lt o ≡ true → o ≡ Less
less Less holds = refl
less Equal holds = absurd (false≢true holds)
less Greater holds = absurd (false≢true holds)

All-from_test : {X : Type 0} (test : X → Bool) (P : X → Type 0) → ((x : X) → test x ≡ true → P x) → (xs : List X) → list_all test xs ≡ true → All P xs
All-from_test test P each xs holds = All-weaker (λ x. test x ≡ true) P each xs (AllPass-from_list_all test xs holds)

rising : (rows : List Row) → rises rows ≡ true → AllPairs Before rows
rising [] holds = λ i j d lt within. absurd (omega arith)
rising (row ∷ rest) holds = AllPairs-cons Before row rest
    (All-from_test (comes_before row) (Before row) (λ later. less (slice_cmp nat_cmp row.text.now later.text.now)) rest
    (first_so (list_all (comes_before row) rest) (rises rest) holds))
    (rising rest (second_so (list_all (comes_before row) rest) (rises rest) holds))

filled : (text : List ℕ) → nat_lt 0 (length text) ≡ true → text ≢ []
filled [] holds empty = false≢true holds
filled (byte ∷ text) holds empty = cc

pub ordered_from_test : (rows : List Row) → (rises rows && list_all has_bytes rows) ≡ true → IsOrdered rows
ordered_from_test rows holds = record {
  increasing = rising rows (first_so (rises rows) (list_all has_bytes rows) holds);
  filled = All-from_test has_bytes (λ row. row.text.now ≢ []) (λ row. filled row.text.now) rows
      (second_so (rises rows) (list_all has_bytes rows) holds);
}

-- ---- the codes

abbrev pub Entry : Type 0
Entry = List ℕ × ℕ

-- each word with its position, the first at n
abbrev pub numbered : ℕ → List (List ℕ) → List Entry
numbered n [] = []
numbered n (word ∷ words) = (word, n) ∷ numbered (n + 1) words

-- the entry put before the first that comes after it
abbrev pub placed : Entry → List Entry → List Entry
placed entry [] = entry ∷ []
placed entry (first ∷ rest) = cond (is_before entry.0 first.0) (entry ∷ first ∷ rest) (first ∷ placed entry rest)

abbrev pub sorted : List Entry → List Entry
sorted [] = []
sorted (entry ∷ rest) = placed entry (sorted rest)

Contains-cases : {X : Type 0} (x y : X) (xs : List X) → Contains (x ∷ xs) y → (x ≡ y) ⊎ Contains xs y
Contains-cases x y xs (zero, within, is) = inl is
Contains-cases x y xs (suc k, within, is) = inr (k, omega arith, is)

Contains-head : {X : Type 0} (x y : X) (xs : List X) → x ≡ y → Contains (x ∷ xs) y
Contains-head x y xs is = (zero, omega arith, is)

Contains-rest : {X : Type 0} (x y : X) (xs : List X) → Contains xs y → Contains (x ∷ xs) y
Contains-rest x y xs (k, within, is) = (suc k, omega arith, is)

Contains-none : {X : Type 0} (y : X) → Contains [] y → ⊥
Contains-none y (k, within, is) = omega arith

-- what stands in a list with one more entry placed, by whether it comes before the first
from_placed_by : (b : Bool) (entry first other : Entry) (rest placed : List Entry)
    → (Contains placed other → (entry ≡ other) ⊎ Contains rest other)
    → Contains (cond b (entry ∷ first ∷ rest) (first ∷ placed)) other → (entry ≡ other) ⊎ Contains (first ∷ rest) other
from_placed_by true entry first other rest placed below there = Contains-cases entry other (first ∷ rest) there
from_placed_by false entry first other rest placed below there = elim (Contains-cases first other placed there) [
  | inl is ↦ inr (Contains-head first other rest is)
  | inr after ↦ elim (below after) [
    | inl is ↦ inl is
    | inr after ↦ inr (Contains-rest first other rest after)
  ]
]

from_placed : (entry other : Entry) (rest : List Entry) → Contains (placed entry rest) other → (entry ≡ other) ⊎ Contains rest other
from_placed entry other [] there = Contains-cases entry other [] there
from_placed entry other (first ∷ rest) there =
    from_placed_by (is_before entry.0 first.0) entry first other rest (placed entry rest) (from_placed entry other rest) there

to_placed_by : (b : Bool) (entry first other : Entry) (rest placed : List Entry)
    → ((entry ≡ other) ⊎ Contains rest other → Contains placed other)
    → (entry ≡ other) ⊎ Contains (first ∷ rest) other → Contains (cond b (entry ∷ first ∷ rest) (first ∷ placed)) other
to_placed_by true entry first other rest placed below (inl is) = Contains-head entry other (first ∷ rest) is
to_placed_by true entry first other rest placed below (inr after) = Contains-rest entry other (first ∷ rest) after
to_placed_by false entry first other rest placed below (inl is) = Contains-rest first other placed (below (inl is))
to_placed_by false entry first other rest placed below (inr after) = elim (Contains-cases first other rest after) [
  | inl is ↦ Contains-head first other placed is
  | inr after ↦ Contains-rest first other placed (below (inr after))
]

to_placed : (entry other : Entry) (rest : List Entry) → (entry ≡ other) ⊎ Contains rest other → Contains (placed entry rest) other
to_placed entry other [] (inl is) = Contains-head entry other [] is
to_placed entry other [] (inr after) = absurd (Contains-none other after)
to_placed entry other (first ∷ rest) either =
    to_placed_by (is_before entry.0 first.0) entry first other rest (placed entry rest) (to_placed entry other rest) either

from_sorted : (rows : List Entry) (other : Entry) → Contains (sorted rows) other → Contains rows other
from_sorted [] other there = there
from_sorted (entry ∷ rest) other there = elim (from_placed entry other (sorted rest) there) [
  | inl is ↦ Contains-head entry other rest is
  | inr after ↦ Contains-rest entry other rest (from_sorted rest other after)
]

to_sorted : (rows : List Entry) (other : Entry) → Contains rows other → Contains (sorted rows) other
to_sorted [] other there = there
to_sorted (entry ∷ rest) other there = elim (Contains-cases entry other rest there) [
  | inl is ↦ to_placed entry other (sorted rest) (inl is)
  | inr after ↦ to_placed entry other (sorted rest) (inr (to_sorted rest other after))
]

to_numbered : (n : ℕ) (words : List (List ℕ)) (code : ℕ) (text : List ℕ) → slice_get words code ≡ Some text → Contains (numbered n words) (text, n + code)
to_numbered n [] code text is = cc
to_numbered n (word ∷ words) zero text is = Contains-head (word, n) (text, n + zero) (numbered (n + 1) words) (grind (arith, same_Some word text is))
to_numbered n (word ∷ words) (suc code) text is =
    let moved : n + 1 + code ≡ n + suc code = omega arith in
    Contains-rest (word, n) (text, n + suc code) (numbered (n + 1) words)
    (subst (λ m. Contains (numbered (n + 1) words) (text, m)) moved (to_numbered (n + 1) words code text is))

from_numbered : (n : ℕ) (words : List (List ℕ)) (text : List ℕ) (m : ℕ) → Contains (numbered n words) (text, m) → (n ≤ m) × (slice_get words (m - n) ≡ Some text)
from_numbered n [] text m there = absurd (Contains-none (text, m) there)
from_numbered n (word ∷ words) text m there = elim (Contains-cases (word, n) (text, m) (numbered (n + 1) words) there) [
  | inl is ↦
      let code : n ≡ m = ap (λ entry. entry.1) is in
      let none : m - n ≡ 0 = omega arith in
      (omega arith, rw none (ap (λ entry. Some entry.0) is))
  | inr after ↦
      let below = from_numbered (n + 1) words text m after in
      let more : m - n ≡ suc (m - (n + 1)) = omega (arith, below.0) in
      (omega (arith, below.0), rw more below.1)
]

-- so the rows are the words, numbered
pub numbered_from_test : (words : List (List ℕ)) (rows : List Entry) → rows ≡ sorted (numbered 0 words)
    → (text : List ℕ) (code : ℕ) → (slice_get words code ≡ Some text) ↔ Contains rows (text, code)
numbered_from_test words rows same text code =
    let back : 0 + code ≡ code = omega arith in
    let none : code - 0 ≡ code = omega arith in (
      λ is. subst (λ list. Contains list (text, code)) (sym same)
          (to_sorted _ _ (subst (λ m. Contains (numbered 0 words) (text, m)) back (to_numbered 0 words code text is))),
      λ there. rw (← none) (from_numbered 0 words text code (from_sorted _ _ (subst (λ list. Contains list (text, code)) same there))).1,
    )
