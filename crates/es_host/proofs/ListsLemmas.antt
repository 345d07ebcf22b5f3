-- Facts about the members of a list by their places, of which one is called at a time.
use Rattle.std.proofs.Common.{◌≡◌, ◌≢◌, ◌∙◌, ℕ, zero, suc, ◌+◌, ◌<◌, ◌≤◌, List, [], ◌∷◌, ◌++◌, slice_index_or, slice_set, length, ap, sym, subst, refl, append-nil, arith}
use Rattle.std.specs.List.{flat_map, range_with_len}
use Rattle.std.proofs.lemmas.Grind.{flat_map-append}
use Rattle.std.proofs.lemmas.List.{get_or-set_same, get_or-set_other}

-- the fact holds of each member and its place
abbrev pub Each : {X : Type 0} → (ℕ → X → Type 0) → List X → Type 0
Each {X} P xs = (place : ℕ) (other : X) → place < length xs → P place (slice_index_or xs place other)

-- of those before a place
abbrev pub Before : {X : Type 0} → ℕ → (ℕ → X → Type 0) → List X → Type 0
Before {X} end P xs = (place : ℕ) (other : X) → place < end → P place (slice_index_or xs place other)

-- of those from a place on
abbrev pub From : {X : Type 0} → ℕ → (ℕ → X → Type 0) → List X → Type 0
From {X} start P xs = (place : ℕ) (other : X) → start ≤ place → place < length xs → P place (slice_index_or xs place other)

data Compared (a b : ℕ) : Type 0 where
  same : a ≡ b → Compared a b
  apart : a ≢ b → Compared a b

compare : (a b : ℕ) → Compared a b
compare zero zero = same refl
compare zero (suc b) = apart (λ e. absurd (omega (arith, e)))
compare (suc a) zero = apart (λ e. absurd (omega (arith, e)))
compare (suc a) (suc b) = next (compare a b)
  where
    next : Compared a b → Compared (suc a) (suc b)
    next (same e) = same (ap suc e)
    next (apart n) = apart (λ e. n (omega (arith, e)))

length-set : {X : Type 0} (xs : List X) (i : ℕ) (x : X) → length (slice_set xs i x) ≡ length xs
length-set [] i x = refl
length-set (y ∷ ys) zero x = refl
length-set (y ∷ ys) (suc i) x = ap suc (length-set ys i x)

module _ {X : Type 0} (P Q : ℕ → X → Type 0) (xs : List X) (i : ℕ) (x : X) (within : i < length xs) (new : Q i x) where
  at : (k : ℕ) (d : X) → (k ≢ i → Q k (slice_index_or xs k d)) → Q k (slice_index_or (slice_set xs i x) k d)
  at k d others = cases (compare k i)
    where
      cases : Compared k i → Q k (slice_index_or (slice_set xs i x) k d)
      cases (same e) =
          subst (λ n. Q n (slice_index_or (slice_set xs i x) n d)) (sym e) (subst (Q i) (sym (get_or-set_same xs i x d within)) new)
      cases (apart n) = subst (Q k) (sym (get_or-set_other xs i k x d n)) (others n)

  -- one member becomes another, and the facts of the rest follow
  pub Each-set : ((k : ℕ) (y : X) → k ≢ i → P k y → Q k y) → Each P xs → Each Q (slice_set xs i x)
  Each-set follows each k d h =
      let inside : k < length xs = omega (arith, h, length-set xs i x) in
      at k d (λ n. follows k (slice_index_or xs k d) n (each k d inside))

  pub Before-set : Before i Q xs → Before (i + 1) Q (slice_set xs i x)
  Before-set before k d h = at k d (λ n. before k d (omega (arith, h, n)))

-- the members behind the one that becomes another stay
pub From-set : {X : Type 0} (P : ℕ → X → Type 0) (xs : List X) (i : ℕ) (x : X) → From i P xs → From (i + 1) P (slice_set xs i x)
From-set P xs i x from k d least h =
    let inside : k < length xs = omega (arith, h, length-set xs i x) in
    subst (P k) (sym (get_or-set_other xs i k x d (λ e. absurd (omega (arith, e, least))))) (from k d (omega (arith, least)) inside)

-- facts of the places before a place, and of that one
pub below-more : (P : ℕ → Type 0) (i : ℕ) → P i → ((k : ℕ) → k < i → P k) → (k : ℕ) → k < i + 1 → P k
below-more P i here before k h = cases (compare k i)
  where
    cases : Compared k i → P k
    cases (same e) = subst P (sym e) here
    cases (apart n) = before k (omega (arith, h, n))

range_more : (a n : ℕ) → range_with_len a (suc n) ≡ range_with_len a n ++ (a + n) ∷ []
range_more a zero = let e : a ≡ a + 0 = omega arith in ap (λ z. z ∷ []) e
range_more a (suc n) =
    let e : (a + 1) + n ≡ a + suc n = omega arith in
    ap (λ z. a ∷ z) (range_more (a + 1) n ∙ ap (λ z. range_with_len (a + 1) n ++ z ∷ []) e)

-- one more number
pub range-more : {X : Type 0} (f : ℕ → List X) (n : ℕ) → flat_map f (range_with_len 0 (n + 1)) ≡ flat_map f (range_with_len 0 n) ++ f n
range-more f n =
    let one : n + 1 ≡ suc n = omega arith in
    let here : 0 + n ≡ n = omega arith in
    ap (λ (m : ℕ). flat_map f (range_with_len 0 m)) one
    ∙ ap (flat_map f) (range_more 0 n ∙ ap (λ z. range_with_len 0 n ++ z ∷ []) here)
    ∙ flat_map-append f (range_with_len 0 n) (n ∷ [])
    ∙ ap (λ ys. flat_map f (range_with_len 0 n) ++ ys) (append-nil (f n))

-- functions that agree on the members
pub flat_map-alike : {X Y : Type 0} (f g : X → List Y) (xs : List X) → ((k : ℕ) (d : X) → k < length xs → f (slice_index_or xs k d) ≡ g (slice_index_or xs k d))
    → flat_map f xs ≡ flat_map g xs
flat_map-alike f g [] alike = refl
flat_map-alike f g (x ∷ xs) alike =
    let first : f x ≡ g x = alike 0 x (omega arith) in
    ap (λ ys. ys ++ flat_map f xs) first
    ∙ ap (λ ys. g x ++ ys) (flat_map-alike f g xs (λ k d h. alike (suc k) d (omega (arith, h))))

push-before : {X : Type 0} (xs : List X) (x : X) (k : ℕ) (d : X) → k < length xs → slice_index_or (xs ++ x ∷ []) k d ≡ slice_index_or xs k d
push-before [] x k d h = absurd (omega (arith, h))
push-before (y ∷ ys) x zero d h = refl
push-before (y ∷ ys) x (suc k) d h = push-before ys x k d (omega (arith, h))

push-last : {X : Type 0} (xs : List X) (x : X) (k : ℕ) (d : X) → k ≡ length xs → slice_index_or (xs ++ x ∷ []) k d ≡ x
push-last [] x zero d e = refl
push-last [] x (suc k) d e = absurd (omega (arith, e))
push-last (y ∷ ys) x zero d e = absurd (omega (arith, e))
push-last (y ∷ ys) x (suc k) d e = push-last ys x k d (omega (arith, e))

-- one more member at the end
pub Before-push : {X : Type 0} (P : ℕ → X → Type 0) (xs : List X) (x : X) (n : ℕ) → length xs ≡ n → P n x → Before n P xs → Before (n + 1) P (xs ++ x ∷ [])
Before-push {X} P xs x n count new before k d h = cases (compare k n)
  where
    cases : Compared k n → P k (slice_index_or (xs ++ x ∷ []) k d)
    cases (same e) = subst (P k) (sym (push-last xs x k d (omega (arith, e, count)))) (subst (λ m. P m x) (sym e) new)
    cases (apart a) =
        let less : k < n = omega (arith, h, a) in
        subst (P k) (sym (push-before xs x k d (omega (arith, less, count)))) (before k d less)
