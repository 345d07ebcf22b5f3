-- An item that joins one of several lists.
use Rattle.std.specs.Prelude.{ℕ, zero, suc, List, [], ◌∷◌, ◌++◌}

-- the lists, with the item at the end of the one at this index
abbrev pub pushed_at : {A : Type 0} → List (List A) → ℕ → A → List (List A)
pushed_at [] at item = []
pushed_at (list ∷ lists) zero item = (list ++ item ∷ []) ∷ lists
pushed_at (list ∷ lists) (suc at) item = list ∷ pushed_at lists at item
