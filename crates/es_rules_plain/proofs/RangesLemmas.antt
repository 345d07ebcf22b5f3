-- A test over numbers one behind the other.
use Rattle.std.proofs.Common.{◌≡◌, ◌∙◌, ℕ, zero, suc, ◌+◌, ◌<◌, ◌≤◌, Bool, true, false, ap, refl, arith, sym}
use Rattle.std.specs.Prelude.{◌||◌}
use Rattle.std.specs.List.{list_any, range_with_len}

module _ (p : ℕ → Bool) where
  none-among : (start count : ℕ) → ((k : ℕ) → start ≤ k → k < start + count → p k ≡ false) → list_any p (range_with_len start count) ≡ false
  none-among start zero fails = refl
  none-among start (suc count) fails =
      rw (fails start (omega arith) (omega arith)) (none-among (start + 1) count (λ k low high. fails k (omega (arith, low)) (omega (arith, high))))

  pub none-below : (count : ℕ) → ((k : ℕ) → k < count → p k ≡ false) → list_any p (range_with_len 0 count) ≡ false
  none-below count fails = none-among 0 count (λ k low high. fails k (omega (arith, high)))

  one-among : (start count k : ℕ) → k < count → p (start + k) ≡ true → list_any p (range_with_len start count) ≡ true
  one-among start zero k within passes = absurd (omega (arith, within))
  one-among start (suc count) zero within passes =
      let here : start + 0 ≡ start = omega arith in
      let is : p start ≡ true = ap p (sym here) ∙ passes in
      rw is refl
  one-among start (suc count) (suc k) within passes =
      let next : (start + 1) + k ≡ start + suc k = omega arith in
      ap (λ b. p start || b) (one-among (start + 1) count k (omega (arith, within)) (ap p next ∙ passes)) ∙ or-true (p start)
    where
      or-true : (b : Bool) → (b || true) ≡ true
      or-true true = refl
      or-true false = refl

  pub one-below : (count k : ℕ) → k < count → p k ≡ true → list_any p (range_with_len 0 count) ≡ true
  one-below count k within passes = let here : 0 + k ≡ k = omega arith in one-among 0 count k within (ap p here ∙ passes)
