-- Writing a longer list back is joining the item to it.
use Rattle.std.proofs.Common.{◌≡◌, ℕ, zero, suc, ◌<◌, List, [], ◌∷◌, ◌++◌, length, slice_set, refl, ap, arith}
use Rattle.std.specs.Prelude.{slice_index_or}
use Rattle.es_text.specs.Lists.{pushed_at}

pub set-pushed : {A : Type 0} (lists : List (List A)) (at : ℕ) (other : List A) (item : A) → at < length lists
    → slice_set lists at (slice_index_or lists at other ++ item ∷ []) ≡ pushed_at lists at item
set-pushed [] at other item within = absurd (omega (within, arith))
set-pushed (list ∷ lists) zero other item within = refl
set-pushed (list ∷ lists) (suc at) other item within =
    ap (λ rest. list ∷ rest) (set-pushed lists at other item (omega (within, arith)))
