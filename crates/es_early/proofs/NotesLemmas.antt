-- The first of nodes that pass a test.
use Rattle.std.proofs.Common.{◌≡◌, ◌∙◌, ℕ, zero, suc, ◌+◌, ◌<◌, ◌≤◌, Bool, true, false, List, [], ◌∷◌, ◌++◌, Option, Some, None, refl, ap, sym, inl, inr, arith}
use Rattle.std.specs.Prelude.{cond, find}
use Rattle.std.specs.Option.{is_some}
use Rattle.std.proofs.lemmas.Bool.{cases_eq, lt-ltb, ltb-true}
use Rattle.std.specs.List.{range_with_len}
use Rattle.es_early.specs.Notes.{noted, first_of, is_noted_before}

pub noted-not : (node : ℕ) (first : Option ℕ) → noted false node first ≡ first
noted-not node None = refl
noted-not node (Some first) = refl

range_more : (a n : ℕ) → range_with_len a (suc n) ≡ range_with_len a n ++ (a + n) ∷ []
range_more a zero = let e : a ≡ a + 0 = omega arith in ap (λ z. z ∷ []) e
range_more a (suc n) =
    let e : (a + 1) + n ≡ a + suc n = omega arith in
    ap (λ z. a ∷ z) (range_more (a + 1) n ∙ ap (λ z. range_with_len (a + 1) n ++ z ∷ []) e)

find_step : (test : ℕ → Bool) (xs : List ℕ) (x y : ℕ) (b : Bool) → find test (xs ++ x ∷ []) ≡ noted (test x) x (find test xs)
    → cond b (Some y) (find test (xs ++ x ∷ [])) ≡ noted (test x) x (cond b (Some y) (find test xs))
find_step test xs x y true more = refl
find_step test xs x y false more = more

find_more : (test : ℕ → Bool) (xs : List ℕ) (x : ℕ) → find test (xs ++ x ∷ []) ≡ noted (test x) x (find test xs)
find_more test [] x = refl
find_more test (y ∷ ys) x = find_step test ys x y (test y) (find_more test ys x)

pub first_of-more : (test : ℕ → Bool) (count : ℕ) → first_of test (count + 1) ≡ noted (test count) count (first_of test count)
first_of-more test count =
    let one : count + 1 ≡ suc count = omega arith in
    let here : 0 + count ≡ count = omega arith in
    ap (λ n. first_of test n) one
    ∙ ap (find test) (range_more 0 count ∙ ap (λ n. range_with_len 0 count ++ n ∷ []) here)
    ∙ find_more test (range_with_len 0 count) count

next_first : (test : ℕ → Bool) (count : ℕ) → first_of test (suc count) ≡ noted (test count) count (first_of test count)
next_first test count = let one : suc count ≡ count + 1 = omega arith in ap (first_of test) one ∙ first_of-more test count

passes_step : (test : ℕ → Bool) (count : ℕ) (old : Option ℕ) (passes : Bool) (first : ℕ) → ((f : ℕ) → old ≡ Some f → (test f ≡ true) × (f < count))
    → test count ≡ passes → noted passes count old ≡ Some first → (test first ≡ true) × (first < suc count)
passes_step test count (Some f) passes first before is found =
    let same : f ≡ first = cc in
    let early = before f refl in
    (ap test (sym same) ∙ early.0, omega (arith, same, early.1))
passes_step test count None true first before is found = let same : count ≡ first = cc in (ap test (sym same) ∙ is, omega (arith, same))
passes_step test count None false first before is found = cc

-- the first node that passes does pass
pub first_of-passes : (test : ℕ → Bool) (count first : ℕ) → first_of test count ≡ Some first → (test first ≡ true) × (first < count)
first_of-passes test zero first found = cc
first_of-passes test (suc count) first found =
    passes_step test count (first_of test count) (test count) first (λ f is. first_of-passes test count f is) refl (sym (next_first test count) ∙ found)

least_here : (test : ℕ → Bool) (count : ℕ) (old : Option ℕ) → test count ≡ true → ((f : ℕ) → old ≡ Some f → f < count)
    → (first : ℕ) × (noted (test count) count old ≡ Some first) × (first ≤ count)
least_here test count None passes before = (count, rw passes refl, omega arith)
least_here test count (Some f) passes before = let less = before f refl in (f, refl, omega (arith, less))

least_before : (test : ℕ → Bool) (count node : ℕ) (old : Option ℕ) → (first : ℕ) × (old ≡ Some first) × (first ≤ node)
    → (first : ℕ) × (noted (test count) count old ≡ Some first) × (first ≤ node)
least_before test count node old first = (first.0, rw first.1 refl, first.2)

-- where a node passes, a first one is there, and not after it
pub first_of-least : (test : ℕ → Bool) (count node : ℕ) → test node ≡ true → node < count → (first : ℕ) × (first_of test count ≡ Some first) × (first ≤ node)
first_of-least test zero node passes within = absurd (omega (arith, within))
first_of-least test (suc count) node passes within =
    elim (cases_eq node count) [
      | inl same ↦
          let here = least_here test count (first_of test count) (ap test (sym same) ∙ passes) (λ f is. (first_of-passes test count f is).1) in
          (here.0, next_first test count ∙ here.1, omega (arith, here.2, same))
      | inr other ↦
          let less : node < count = omega (arith, other, within) in
          let there = least_before test count node (first_of test count) (first_of-least test count node passes less) in
          (there.0, next_first test count ∙ there.1, there.2)
    ]

noted_lower : (first : Option ℕ) (node : ℕ) → is_noted_before first node ≡ true → (f : ℕ) × (first ≡ Some f) × (f < node)
noted_lower None node is = cc
noted_lower (Some f) node is = (f, refl, ltb-true f node is)

-- a node that passes was noted before this one
pub noted_before-gives : (test : ℕ → Bool) (count node : ℕ) → is_noted_before (first_of test count) node ≡ true → (first : ℕ) × (test first ≡ true) × (first < node)
noted_before-gives test count node is =
    let lower = noted_lower (first_of test count) node is in
    (lower.0, (first_of-passes test count lower.0 lower.1).0, lower.2)

pub noted_before-holds : (test : ℕ → Bool) (count other node : ℕ) → test other ≡ true → other < count → other < node → is_noted_before (first_of test count) node ≡ true
noted_before-holds test count other node passes within before =
    let least = first_of-least test count other passes within in
    let less : least.0 < node = omega (arith, least.2, before) in
    ap (λ first. is_noted_before first node) least.1 ∙ lt-ltb least.0 node less

pub first_of-is_some : (test : ℕ → Bool) (count node : ℕ) → test node ≡ true → node < count → is_some (first_of test count) ≡ true
first_of-is_some test count node passes within = let least = first_of-least test count node passes within in rw least.1 refl

some_is : {A : Type 0} (value : Option A) → is_some value ≡ true → (a : A) × (value ≡ Some a)
some_is None is = cc
some_is (Some a) is = (a, refl)

pub first_of-is : (test : ℕ → Bool) (count : ℕ) → is_some (first_of test count) ≡ true → (first : ℕ) × (test first ≡ true)
first_of-is test count is = let found = some_is (first_of test count) is in (found.0, (first_of-passes test count found.0 found.1).0)
