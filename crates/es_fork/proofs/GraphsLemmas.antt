-- Segments by their numbers, and members of lists.
use Rattle.std.proofs.Common.{◌≡◌, ◌≢◌, ℕ, zero, suc, ◌+◌, ◌-◌, ◌<◌, ◌≤◌, List, [], ◌∷◌, ◌++◌, ◌⊎◌, inl, inr, length, refl, sym, ◌∙◌, ap, subst, arith, get_or, get_or-set_same, get_or-set_other, slice_set, take, drop}
use Rattle.std.proofs.Math.Seq.{take-length}
use Rattle.es_fork.specs.declared.segment.Segment.{Segment}
use Rattle.es_fork.specs.Graphs.{segment_at, no_segment, Has, IsOf}

pub Has-append_left : {A : Type 0} → (xs ys : List A) (y : A) → Has xs y → Has (xs ++ ys) y
Has-append_left [] ys y h = elim h [ ]
Has-append_left (x ∷ xs) ys y (inl e) = inl e
Has-append_left (x ∷ xs) ys y (inr h) = inr (Has-append_left xs ys y h)

pub Has-append_right : {A : Type 0} → (xs ys : List A) (y : A) → Has ys y → Has (xs ++ ys) y
Has-append_right [] ys y h = h
Has-append_right (x ∷ xs) ys y h = inr (Has-append_right xs ys y h)

pub Has-append : {A : Type 0} → (xs ys : List A) (y : A) → Has (xs ++ ys) y → Has xs y ⊎ Has ys y
Has-append [] ys y h = inr h
Has-append (x ∷ xs) ys y (inl e) = inl (inl e)
Has-append (x ∷ xs) ys y (inr h) = elim (Has-append xs ys y h) [ inl a ↦ inl (inr a) | inr b ↦ inr b ]

pub Has-last : {A : Type 0} → (xs : List A) (y : A) → Has (xs ++ y ∷ []) y
Has-last xs y = Has-append_right xs (y ∷ []) y (inl refl)

pub Has-push : {A : Type 0} → (xs : List A) (z y : A) → Has (xs ++ z ∷ []) y → Has xs y ⊎ (y ≡ z)
Has-push xs z y h = elim (Has-append xs (z ∷ []) y h) [ inl a ↦ inl a | inr b ↦ elim b [ inl e ↦ inr (sym e) | inr n ↦ absurd n ] ]

pub Has-at : (xs : List ℕ) (i : ℕ) → i < length xs → Has xs (get_or xs i 0)
Has-at [] i lt = absurd (omega arith)
Has-at (x ∷ xs) zero lt = inl refl
Has-at (x ∷ xs) (suc i) lt = inr (Has-at xs i (omega arith))

-- within a list the default is never read
pub default_free : {A : Type 0} → (xs : List A) (i : ℕ) (d e : A) → i < length xs → get_or xs i d ≡ get_or xs i e
default_free [] i d e lt = absurd (omega arith)
default_free (x ∷ xs) zero d e lt = refl
default_free (x ∷ xs) (suc i) d e lt = default_free xs i d e (omega arith)

pub index_of_number : (index id : ℕ) → index + 1 ≡ id → index ≡ id - 1
index_of_number index id e = omega arith

pub segment_at-index : (g : List Segment) (index id : ℕ) → index + 1 ≡ id → segment_at g id ≡ get_or g index no_segment
segment_at-index g index id e = let q : id ≡ suc index = omega arith in ap (segment_at g) q

-- the element that the code reads is the segment
pub segment_is : (g : List Segment) (index id : ℕ) (x : Segment) → index + 1 ≡ id → id ≤ length g → x ≡ get_or g index x → x ≡ segment_at g id
segment_is g index id x e le q = q ∙ default_free g index x no_segment (omega arith) ∙ sym (segment_at-index g index id e)

pub segment_at-set_same : (g : List Segment) (id : ℕ) (x : Segment) → IsOf g id → segment_at (slice_set g (id - 1) x) id ≡ x
segment_at-set_same g id x of =
    let lo = of.from_one in
    let hi = of.to_last in
    segment_at-index (slice_set g (id - 1) x) (id - 1) id (omega arith) ∙ get_or-set_same g (id - 1) x no_segment (omega arith)

pub segment_at-set_other : (g : List Segment) (id other : ℕ) (x : Segment) → 1 ≤ id → other ≢ id → segment_at (slice_set g (id - 1) x) other ≡ segment_at g other
segment_at-set_other g id zero x lo ne = refl
segment_at-set_other g id (suc j) x lo ne = get_or-set_other g (id - 1) j x no_segment (λ e. ne (let s : j ≡ id - 1 = e in omega arith))

pub past_end : (g : List Segment) (id : ℕ) → length g < id → segment_at g id ≡ no_segment
past_end g zero lt = refl
past_end [] (suc j) lt = refl
past_end (x ∷ g) (suc zero) lt = absurd (omega arith)
past_end (x ∷ g) (suc (suc j)) lt = past_end g (suc j) (omega arith)

-- a list that is not empty, as the code takes it apart
pub split_first : {A : Type 0} → (xs : List A) (d : A) → 1 ≤ length xs → xs ≡ get_or xs 0 d ∷ take (length xs - 1) (drop 1 xs)
split_first [] d some = absurd (omega arith)
split_first (x ∷ xs) d some = ap (λ rest. x ∷ rest) (sym (ap (λ n. take n xs) (let e : length (x ∷ xs) - 1 ≡ length xs = omega arith in e) ∙ take-length xs))

pub Has-first : {A : Type 0} → (xs : List A) (d : A) → 1 ≤ length xs → Has xs (get_or xs 0 d)
Has-first [] d some = absurd (omega arith)
Has-first (x ∷ xs) d some = inl refl

pub Has-rest : {A : Type 0} → (xs : List A) (y : A) → 1 ≤ length xs → Has (take (length xs - 1) (drop 1 xs)) y → Has xs y
Has-rest [] y some h = absurd (omega arith)
Has-rest (x ∷ xs) y some h = subst (λ l. Has l y) (sym (split_first (x ∷ xs) x some)) (inr h)

pub IsOf-length : (g g' : List Segment) (id : ℕ) → length g' ≡ length g → IsOf g id → IsOf g' id
IsOf-length g g' id e of = record { from_one = of.from_one; to_last = let b = of.to_last in omega arith }

-- the element that a loop reads is one of the list
pub Has-index : {A : Type 0} → (xs : List A) (i : ℕ) (x : A) → i < length xs → x ≡ get_or xs i x → Has xs x
Has-index xs i x lt e = subst (Has xs) (sym e) (at xs i lt)
  where
    at : (ys : List _) (j : ℕ) → j < length ys → Has ys (get_or ys j x)
    at [] j l = absurd (omega arith)
    at (y ∷ ys) zero l = inl refl
    at (y ∷ ys) (suc j) l = inr (at ys j (omega arith))
