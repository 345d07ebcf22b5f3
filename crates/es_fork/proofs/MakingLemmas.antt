-- Loops that make new segments, and that take them away again.
use Rattle.std.proofs.Common.{◌≡◌, ℕ, zero, suc, ◌+◌, ◌<◌, ◌≤◌, List, [], ◌∷◌, ◌++◌, length, map, refl, sym, ◌∙◌, ap, arith, get_or, set, take, drop, add-one, append-nil, Bool, length-append}
use Rattle.std.proofs.Math.Seq.{take-append_seam, take-length}
use Rattle.std.proofs.lemmas.List.{take_all, drop_all, take-map}
use Rattle.es_fork.specs.declared.segment.Segment.{Segment}
use Rattle.es_fork.specs.Changes.{fresh, grown}
use Rattle.es_fork.specs.Edges.{AreFrom, before, IsCutBack}

-- a list whose first i elements f has changed
abbrev pub changed_up_to : {A : Type 0} → (A → A) → List A → ℕ → List A
changed_up_to f xs i = map f (take i xs) ++ drop i xs

changed-suc : {A : Type 0} → (f : A → A) (xs : List A) (i : ℕ) (d : A) → i < length xs → set (changed_up_to f xs i) i (f (get_or xs i d)) ≡ changed_up_to f xs (suc i)
changed-suc f [] i d lt = absurd (omega arith)
changed-suc f (x ∷ xs) zero d lt = refl
changed-suc f (x ∷ xs) (suc i) d lt = ap (λ l. f x ∷ l) (changed-suc f xs i d (omega arith))

pub changed_read : {A : Type 0} → (f : A → A) (xs : List A) (i : ℕ) (d : A) → i < length xs → get_or (changed_up_to f xs i) i d ≡ get_or xs i d
changed_read f [] i d lt = absurd (omega arith)
changed_read f (x ∷ xs) zero d lt = refl
changed_read f (x ∷ xs) (suc i) d lt = changed_read f xs i d (omega arith)

pub changed_step : {A : Type 0} → (f : A → A) (now xs : List A) (i : ℕ) (d y : A) → now ≡ changed_up_to f xs i → i < length xs → y ≡ f (get_or now i d)
    → set now i y ≡ changed_up_to f xs (i + 1)
changed_step f now xs i d y e lt q =
    let r : y ≡ f (get_or xs i d) = q ∙ ap (λ l. f (get_or l i d)) e ∙ ap f (changed_read f xs i d lt) in
    (λ k. set (e k) i (r k)) ∙ changed-suc f xs i d lt ∙ ap (changed_up_to f xs) (sym (add-one i))

-- at the end of the loop f has changed all of them
pub changed_all : {A : Type 0} → (f : A → A) (now xs rest : List A) (i n : ℕ) → now ≡ changed_up_to f xs i → length xs ≤ i → n ≡ length now → take n (now ++ rest) ≡ map f xs
changed_all f now xs rest i n e past len =
    ap (λ m. take m (now ++ rest)) len ∙ take-append_seam now rest ∙ e
    ∙ (λ k. map f (take_all i xs past k) ++ drop_all i xs past k) ∙ append-nil (map f xs)

whole : (n : ℕ) (g : List Segment) → n ≡ length g → take n g ≡ g
whole n g e = ap (λ m. take m g) e ∙ take-length g

pub cut_grown : (g m : List Segment) → IsCutBack g g → take (length g) m ≡ g → IsCutBack g m
cut_grown g m closed e = ap (map (before (length g))) (e ∙ sym (whole (length g) g refl)) ∙ closed

pub cut_connected : (g m g' : List Segment) (flags : List Bool) → IsCutBack g g → g' ≡ grown g flags → map (before (length g)) m ≡ map (before (length g)) g' → IsCutBack g m
unfolding grown
cut_connected g m g' flags closed w e =
    sym (take-map (before (length g)) (length g) m) ∙ ap (take (length g)) (e ∙ ap (map (before (length g))) w) ∙ take-map (before (length g)) (length g) (g ++ map fresh flags)
    ∙ ap (map (before (length g))) (take-append_seam g (map fresh flags) ∙ sym (whole (length g) g refl)) ∙ closed

pub AreFrom-grown : (g g' : List Segment) (flags : List Bool) (edges : List (ℕ × ℕ)) → g' ≡ grown g flags → AreFrom g edges → AreFrom g' edges
unfolding grown
AreFrom-grown g g' flags edges w from edge held =
    let of = from edge held in
    let n : length g' ≡ length g + length (map fresh flags) = ap length w ∙ length-append g (map fresh flags) in
    record { from_one = of.from_one; to_last = let b = of.to_last in omega arith }
