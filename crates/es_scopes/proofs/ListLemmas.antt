-- Lists that are filled in the order of numbers.
use Rattle.std.proofs.Common.{◌≡◌, ◌∙◌, ℕ, zero, suc, ◌+◌, ◌<◌, List, [], ◌∷◌, ◌++◌, length, map, append-nil, Some, refl, ap, sym, inl, inr, arith}
use Rattle.std.specs.Prelude.{◌⊎◌, slice_get}
use Rattle.std.proofs.Math.ListN.{get_or}
use Rattle.std.proofs.lemmas.List.Concat.{flat_map-append}
use Rattle.std.proofs.lemmas.List.FromFn.{get_or-map-range_with_len, map-range_with_len_more}
use Rattle.std.specs.List.{flat_map, range_with_len}

pub at_filled : {X : Type 0} (f : ℕ → X) (xs : List X) (n i : ℕ) (d : X) → xs ≡ map f (range_with_len 0 n) → i < n → get_or xs i d ≡ f i
at_filled f xs n i d is within =
    let here : 0 + i ≡ i = omega arith in
    ap (λ l. get_or l i d) is ∙ get_or-map-range_with_len f 0 n i i d within here

range_more : (a n : ℕ) → range_with_len a (suc n) ≡ range_with_len a n ++ (a + n) ∷ []
range_more a zero = let e : a ≡ a + 0 = omega arith in ap (λ (z : ℕ). z ∷ []) e
range_more a (suc n) =
    let e : (a + 1) + n ≡ a + suc n = omega arith in
    ap (λ z. a ∷ z) (range_more (a + 1) n ∙ ap (λ (z : ℕ). range_with_len (a + 1) n ++ z ∷ []) e)

pub range_with_len-more : (n : ℕ) → range_with_len 0 (n + 1) ≡ range_with_len 0 n ++ n ∷ []
range_with_len-more n =
    let one : n + 1 ≡ suc n = omega arith in
    let here : 0 + n ≡ n = omega arith in
    ap (range_with_len 0) one ∙ range_more 0 n ∙ ap (λ (z : ℕ). range_with_len 0 n ++ z ∷ []) here

pub flat_map-more : {X : Type 0} (f : ℕ → List X) (n : ℕ) → flat_map f (range_with_len 0 (n + 1)) ≡ flat_map f (range_with_len 0 n) ++ f n
flat_map-more f n =
    ap (flat_map f) (range_with_len-more n) ∙ flat_map-append f (range_with_len 0 n) (n ∷ [])
    ∙ ap (λ l. flat_map f (range_with_len 0 n) ++ l) (append-nil (f n))

-- one more is filled
pub filled-more : {X : Type 0} (f : ℕ → X) (n : ℕ) (xs ys : List X) (x : X) → xs ≡ map f (range_with_len 0 n) → ys ≡ xs ++ x ∷ [] → x ≡ f n
    → ys ≡ map f (range_with_len 0 (n + 1))
filled-more f n xs ys x filled more is =
    let here : 0 + n ≡ n = omega arith in
    more ∙ ap (λ z. xs ++ z ∷ []) is ∙ ap (λ l. l ++ f n ∷ []) filled ∙ sym (map-range_with_len_more f 0 n n here)

-- one more item is at the end, and changes nothing before it
pub get_pushed : {X : Type 0} (xs : List X) (x : X) (i : ℕ)
    → (slice_get (xs ++ x ∷ []) i ≡ slice_get xs i) ⊎ ((i ≡ length xs) × (slice_get (xs ++ x ∷ []) i ≡ Some x))
get_pushed [] x zero = inr (refl, refl)
get_pushed [] x (suc i) = inl refl
get_pushed (y ∷ xs) x zero = inl refl
get_pushed (y ∷ xs) x (suc i) = elim (get_pushed xs x i) [
  | inl same ↦ inl same
  | inr last ↦ inr (ap suc last.0, last.1)
]

pub get-last : {X : Type 0} (xs : List X) (x : X) → slice_get (xs ++ x ∷ []) (length xs) ≡ Some x
get-last [] x = refl
get-last (y ∷ xs) x = get-last xs x

pub get-other : {X : Type 0} (xs : List X) (x : X) (i : ℕ) → (i ≡ length xs → ⊥) → slice_get (xs ++ x ∷ []) i ≡ slice_get xs i
get-other xs x i never = elim (get_pushed xs x i) [
  | inl same ↦ same
  | inr last ↦ absurd (never last.0)
]

pub map-twice : {X Y Z : Type 0} (g : Y → Z) (f : X → Y) (xs : List X) → map g (map f xs) ≡ map (λ x. g (f x)) xs
map-twice g f [] = refl
map-twice g f (x ∷ xs) = ap (λ l. g (f x) ∷ l) (map-twice g f xs)
