-- Sets as the bits of numbers.
use Rattle.std.proofs.Common.{◌≡◌, ℕ, Bool, true, false, refl, subst, ◌<◌, ◌⊎◌, inl, inr, zero, suc, arith, max, ◌^◌, eqb-true, eq-eqb}
use Rattle.std.specs.Prelude.{◌&&◌, ◌||◌, ◌==◌, ◌≢◌}
use Rattle.std.specs.Int.{bit_at, trailing_zeros, w128}
use Rattle.std.specs.Int.RustNames.{bit_and, bit_or}
use Rattle.std.proofs.lemmas.Nat.Bits.{bit_at_and, bit_at_or, bit_at-lt, bit_at-trailing_zeros, bit_at-pow_other, bit_at-zero}

pub or_left : (a b i : ℕ) → bit_at a i ≡ 1 → bit_at (bit_or a b) i ≡ 1
or_left a b i h = omega (arith, bit_at_or a b i, bit_at-lt b i, h)

pub or_right : (a b i : ℕ) → bit_at b i ≡ 1 → bit_at (bit_or a b) i ≡ 1
or_right a b i h = omega (arith, bit_at_or a b i, bit_at-lt a i, h)

one_of : (x y m : ℕ) → m ≡ 1 → m ≡ max x y → x < 2 → y < 2 → (x ≡ 1) ⊎ (y ≡ 1)
one_of zero y m h e l k = inr (omega arith)
one_of (suc x) y m h e l k = inl (omega arith)

pub or_one : (a b i : ℕ) → bit_at (bit_or a b) i ≡ 1 → (bit_at a i ≡ 1) ⊎ (bit_at b i ≡ 1)
or_one a b i h = one_of (bit_at a i) (bit_at b i) (bit_at (bit_or a b) i) h (bit_at_or a b i) (bit_at-lt a i) (bit_at-lt b i)

pub no_bit : {A : Type 0} (i : ℕ) → bit_at 0 i ≡ 1 → A
no_bit i h = absurd (omega (arith, bit_at-zero i, h))

apart_is : (i k : ℕ) → (i == k) ≡ false → i ≡ k → ⊥
apart_is i k e same = let known : (i == k) ≡ true = eq-eqb i k same in cc

pub pow_bit : (i k : ℕ) → bit_at (2 ^ k) i ≡ 1 → i ≡ k
pow_bit i k h = split (i == k) refl
  where
    split : (b : Bool) → (i == k) ≡ b → i ≡ k
    split true e = eqb-true i k e
    split false e = let apart : i ≢ k = λ same. apart_is i k e same in absurd (omega (arith, bit_at-pow_other k i apart, h))

pub first_of_both : (a b : Bool) → (a && b) ≡ true → a ≡ true
first_of_both true b h = refl
first_of_both false b h = h

pub second_of_both : (a b : Bool) → (a && b) ≡ true → b ≡ true
second_of_both true b h = h
second_of_both false b h = cc

pub both : (a b : Bool) → a ≡ true → b ≡ true → (a && b) ≡ true
both true b h k = k
both false b h k = h

pub either_left : (a b : Bool) → a ≡ true → (a || b) ≡ true
either_left true b h = refl
either_left false b h = cc

pub either_right : (a b : Bool) → b ≡ true → (a || b) ≡ true
either_right true b h = refl
either_right false b h = h

pub either : (a b : Bool) → (a || b) ≡ true → (a ≡ true) ⊎ (b ≡ true)
either true b h = inl refl
either false b h = inr h

-- a number that isn't 0 has a bit

pub bit_of : (n : ℕ) → n < 2 ^ 128 → 0 < n → (i : ℕ) × (bit_at n i ≡ 1)
bit_of n fits some = (trailing_zeros w128 n, (bit_at-trailing_zeros w128 n some fits).1)

pub and_one_left : (a b i : ℕ) → bit_at (bit_and a b) i ≡ 1 → bit_at a i ≡ 1
and_one_left a b i h = omega (arith, bit_at_and a b i, bit_at-lt a i, bit_at-lt b i, h)

pub and_one_right : (a b i : ℕ) → bit_at (bit_and a b) i ≡ 1 → bit_at b i ≡ 1
and_one_right a b i h = omega (arith, bit_at_and a b i, bit_at-lt a i, bit_at-lt b i, h)

none_of : (n i : ℕ) → n ≡ 0 → bit_at n i ≡ 1 → ⊥
none_of n i e h = no_bit i (subst (λ m. bit_at m i ≡ 1) e h)

pub both_some : (a b i : ℕ) → bit_at a i ≡ 1 → bit_at b i ≡ 1 → 0 < bit_and a b
both_some a b i h k = positive (bit_and a b) (λ e. none_of (bit_and a b) i e (omega (arith, bit_at_and a b i, h, k)))
  where
    positive : (n : ℕ) → (n ≡ 0 → ⊥) → 0 < n
    positive zero never = absurd (never refl)
    positive (suc n) never = omega arith
