-- The last digit of a number in decimal.
use Rattle.std.proofs.Common.{◌≡◌, ℕ, ◌+◌, ◌/◌, ◌%◌, ◌^◌, ◌<◌, ◌≤◌, true, false, List, [], ◌∷◌, ◌++◌, length, length-append, nat_eq, nat_lt, refl, sym, ap, ◌∙◌, arith}
use Rattle.std.specs.Prelude.{bytes_eq, decimal}
use Rattle.std.proofs.lemmas.Bool.Decides.{nat_tests}
use Rattle.std.proofs.lemmas.Fmt.{decimal_digit, decimal_nonempty, decimal_step}
use Rattle.std.proofs.lemmas.Slice.Eq.{bytes_eq-Decides}

-- two tests are the same where the lists are the same at the same time
pub same_tests : (us vs cs ds : List ℕ) → (us ≡ vs → cs ≡ ds) → (cs ≡ ds → us ≡ vs) → bytes_eq us vs ≡ bytes_eq cs ds
same_tests us vs cs ds to from =
    elim (bytes_eq us vs) as (λ b. bytes_eq us vs ≡ b → b ≡ bytes_eq cs ds) [
      | true ↦ λ yes. sym ((bytes_eq-Decides cs ds).1 (to ((bytes_eq-Decides us vs).0 yes)))
      | false ↦ λ no.
          elim (bytes_eq cs ds) as (λ b. bytes_eq cs ds ≡ b → false ≡ b) [
            | true ↦ λ yes. let k = (bytes_eq-Decides us vs).1 (from ((bytes_eq-Decides cs ds).0 yes)) in cc
            | false ↦ λ other. refl
          ] refl
    ] refl

pub not_same : (us vs : List ℕ) → (us ≡ vs → ⊥) → false ≡ bytes_eq us vs
not_same us vs other =
    elim (bytes_eq us vs) as (λ b. bytes_eq us vs ≡ b → false ≡ b) [
      | true ↦ λ yes. absurd (other ((bytes_eq-Decides us vs).0 yes))
      | false ↦ λ no. refl
    ] refl

snoc_not_nil : (xs : List ℕ) (x : ℕ) → [] ≡ xs ++ x ∷ [] → ⊥
snoc_not_nil [] x e = cc
snoc_not_nil (z ∷ xs) x e = cc

-- lists with a last item
pub same_last : (xs ys : List ℕ) (x y : ℕ) → xs ++ x ∷ [] ≡ ys ++ y ∷ [] → (x ≡ y) × (xs ≡ ys)
same_last [] [] x y e = (cc, refl)
same_last [] (z ∷ ys) x y e = let k : [] ≡ ys ++ y ∷ [] = cc in absurd (snoc_not_nil ys y k)
same_last (z ∷ xs) [] x y e = let k : xs ++ x ∷ [] ≡ [] = cc in absurd (snoc_not_nil xs x (sym k))
same_last (z ∷ xs) (w ∷ ys) x y e =
    let k : xs ++ x ∷ [] ≡ ys ++ y ∷ [] = cc in
    let first : z ≡ w = cc in
    let rest = same_last xs ys x y k in
    (rest.0, ap (λ v. v ∷ xs) first ∙ ap (λ vs. w ∷ vs) rest.1)

pub no_digit : (n : ℕ) (text : List ℕ) → n < 2 ^ 64 → length text ≡ 0 → false ≡ bytes_eq (decimal n) text
no_digit n text small none =
    not_same (decimal n) text (λ same. let k = ap (λ (t : List ℕ). length t) same in absurd (omega (arith, decimal_nonempty n small)))

-- the digits in front of the last
pub digits_in_front : (n : ℕ) → n < 2 ^ 64 → (front : List ℕ) × (decimal n ≡ front ++ (48 + n % 10) ∷ []) × (n < 10 → front ≡ []) × (10 ≤ n → front ≡ decimal (n / 10))
digits_in_front n small =
    elim (nat_lt n 10) as (λ b. nat_lt n 10 ≡ b → (front : List ℕ) × (decimal n ≡ front ++ (48 + n % 10) ∷ []) × (n < 10 → front ≡ []) × (10 ≤ n → front ≡ decimal (n / 10))) [
      | true ↦ λ yes.
          let low : n < 10 = grind (arith, nat_tests) in
          let digit : n ≡ n % 10 = omega arith in
          ([], decimal_digit n low ∙ ap (λ d. (48 + d) ∷ []) digit, λ h. refl, λ h. absurd (omega arith))
      | false ↦ λ no.
          let high : 10 ≤ n = grind (arith, nat_tests) in
          (decimal (n / 10), decimal_step n high small, λ h. absurd (omega arith), λ h. refl)
    ] refl

pub other_digit : (n : ℕ) (text front : List ℕ) (last : ℕ) → n < 2 ^ 64 → text ≡ front ++ last ∷ [] → (last ≡ 48 + n % 10 → ⊥) → false ≡ bytes_eq (decimal n) text
other_digit n text front last small is other =
    let digits = digits_in_front n small in
    not_same (decimal n) text (λ same. other (sym (same_last digits.0 front (48 + n % 10) last (sym digits.1 ∙ same ∙ is)).0))

not_empty : (z : ℕ) (front : List ℕ) → nat_eq (length (z ∷ front)) 0 ≡ false
not_empty z front = grind (arith, nat_tests)

pub one_digit : (n : ℕ) (text front : List ℕ) (last : ℕ) → n < 10 → text ≡ front ++ last ∷ [] → last ≡ 48 + n % 10 → nat_eq (length front) 0 ≡ bytes_eq (decimal n) text
one_digit n text front last low is same =
    let digits = digits_in_front n (omega arith) in
    let none = digits.2 low in
    at front is
  where
    at : (front : List ℕ) → text ≡ front ++ last ∷ [] → nat_eq (length front) 0 ≡ bytes_eq (decimal n) text
    at [] is = sym ((bytes_eq-Decides (decimal n) text).1 (decimal_digit n low ∙ ap (λ d. d ∷ []) (omega arith) ∙ sym is))
    at (z ∷ front) is = not_empty z front ∙ not_same (decimal n) text (λ e. let k = ap (λ (t : List ℕ). length t) (sym (decimal_digit n low) ∙ e ∙ is) in
        absurd (omega (arith, length-append (z ∷ front) (last ∷ []))))

pub more_digits : (n : ℕ) (text front : List ℕ) (last : ℕ) → n < 2 ^ 64 → 10 ≤ n → text ≡ front ++ last ∷ [] → last ≡ 48 + n % 10 →
    bytes_eq (decimal (n / 10)) front ≡ bytes_eq (decimal n) text
more_digits n text front last small high is same =
    let step = decimal_step n high small in
    same_tests (decimal (n / 10)) front (decimal n) text
    (λ e. step ∙ ap (λ ds. ds ++ (48 + n % 10) ∷ []) e ∙ ap (λ d. front ++ d ∷ []) (sym same) ∙ sym is)
    (λ e. (same_last (decimal (n / 10)) front (48 + n % 10) last (sym step ∙ e ∙ is)).1)
