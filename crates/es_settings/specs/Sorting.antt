-- Lists in order.
use Rattle.std.specs.Prelude.{Bool, if◌then◌else◌, List, [], ◌∷◌}

-- x among elements in order: behind those that are less, and before the first that isn't
abbrev pub placed : {X : Type 0} → (X → X → Bool) → X → List X → List X
placed lt x [] = x ∷ []
placed lt x (y ∷ ys) = if lt y x then y ∷ placed lt x ys else x ∷ y ∷ ys

-- the elements in order; those that tie keep theirs
abbrev pub in_order : {X : Type 0} → (X → X → Bool) → List X → List X
in_order lt [] = []
in_order lt (x ∷ xs) = placed lt x (in_order lt xs)
