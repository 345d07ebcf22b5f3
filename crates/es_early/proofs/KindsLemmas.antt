-- What has a kind is a node, and what passes a test in a list.
use Rattle.std.proofs.Common.{◌≡◌, ◌∙◌, ℕ, zero, suc, ◌<◌, Bool, true, false, List, [], ◌∷◌, length, Option, Some, None, refl, ap, inl, inr, arith, eqb-true, eq-eqb}
use Rattle.std.specs.Prelude.{◌==◌, ◌||◌, ◌⊎◌}
use Rattle.std.specs.List.{list_any}
use Rattle.es_tree.specs.Rows.{Row, kind_of}
use Rattle.es_tree.specs.Around.{is_among, is_one_of, is_some}

kind_within : (rows : List Row) (node : ℕ) (kinds : List ℕ) → is_among kinds (kind_of rows node) ≡ true → node < length rows
kind_within [] node kinds is = cc
kind_within (row ∷ rows) zero kinds is = omega arith
kind_within (row ∷ rows) (suc node) kinds is = let less = kind_within rows node kinds is in omega (arith, less)

-- what is of a kind is a node
pub one_of-within : (kinds : List ℕ) (rows : List Row) (node : ℕ) → is_one_of kinds rows node ≡ true → node < length rows
one_of-within kinds rows node is = kind_within rows node kinds is

pub is_some-gives : (found : Option ℕ) (node : ℕ) → is_some found node ≡ true → found ≡ Some node
is_some-gives None node is = cc
is_some-gives (Some found) node is = ap (λ (n : ℕ). Some n) (eqb-true found node is)

pub is_some-holds : (found : Option ℕ) (node : ℕ) → found ≡ Some node → is_some found node ≡ true
is_some-holds None node is = cc
is_some-holds (Some found) node is = let same : found ≡ node = cc in eq-eqb found node same

pub any_cases : (a b : Bool) → (a || b) ≡ true → (a ≡ true) ⊎ (b ≡ true)
any_cases true b is = inl refl
any_cases false b is = inr is

pub or_left : (a b : Bool) → a ≡ true → (a || b) ≡ true
or_left true b is = refl
or_left false b is = cc

pub or_right : (a b : Bool) → b ≡ true → (a || b) ≡ true
or_right true b is = refl
or_right false b is = is

pub any-has : (test : ℕ → Bool) (xs : List ℕ) (x : ℕ) → list_any (λ a. a == x) xs ≡ true → test x ≡ true → list_any test xs ≡ true
any-has test [] x has passes = has
any-has test (y ∷ ys) x has passes =
    elim (any_cases (y == x) (list_any (λ a. a == x) ys) has) [
      | inl here ↦ or_left (test y) (list_any test ys) (ap test (eqb-true y x here) ∙ passes)
      | inr there ↦ or_right (test y) (list_any test ys) (any-has test ys x there passes)
    ]

pub any-gives : (test : ℕ → Bool) (xs : List ℕ) → list_any test xs ≡ true → (x : ℕ) × (list_any (λ a. a == x) xs ≡ true) × (test x ≡ true)
any-gives test [] is = cc
any-gives test (y ∷ ys) is =
    elim (any_cases (test y) (list_any test ys) is) [
      | inl here ↦ (y, or_left (y == y) (list_any (λ a. a == y) ys) (eq-eqb y y refl), here)
      | inr there ↦
          let found = any-gives test ys there in
          (found.0, or_right (y == found.0) (list_any (λ a. a == found.0) ys) found.1, found.2)
    ]
