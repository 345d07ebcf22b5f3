-- Lists in general.
use Rattle.std.proofs.Common.{◌≡◌, ℕ, ◌+◌, ◌<◌, Bool, true, List, [], ◌∷◌, length, map, slice_index_or, refl, subst, arith, ap, ◌∙◌}
use Rattle.std.specs.List.{All, list_all}
use Rattle.std.specs.List.Sorted.{IsSortedBy}
use Rattle.std.proofs.lemmas.List.{get_or-map, length-map}

-- a list whose images are sorted
pub sorted-map : {X Y : Type 0} (f : X → Y) (lt : Y → Y → Bool) (xs : List X) → IsSortedBy (λ x y. lt (f x) (f y)) xs → IsSortedBy lt (map f xs)
sorted-map f lt [] up = λ k d low high. absurd (omega arith)
sorted-map f lt (x ∷ xs) up = λ k d low high.
    let inside : k + 1 < length (x ∷ xs) = omega (arith, length-map (x ∷ xs) f) in
    let before : k < length (x ∷ xs) = omega (arith, inside) in
    rw (get_or-map f (x ∷ xs) (k + 1) x d inside, get_or-map f (x ∷ xs) k x d before) (up k x low inside)

-- what holds of the images
pub all-seen : {X Y : Type 0} (f : X → Y) (P : Y → Type 0) (xs : List X) → All P (map f xs) → All (λ x. P (f x)) xs
all-seen f P xs all = λ k d within.
    subst P (get_or-map f xs k d (f d) within) (all k (f d) (omega (arith, length-map xs f)))
