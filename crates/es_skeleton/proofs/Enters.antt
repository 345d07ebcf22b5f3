-- Walks by the traces with which they come to a segment, before its own labels.
use Rattle.std.proofs.Common.{◌≡◌, ℕ, List, [], ◌++◌, refl, sym, subst}
use Rattle.es_fork.specs.declared.segment.Segment.{Segment}
use Rattle.es_fork.specs.declared.segment.Label.{Label}
use Rattle.es_fork.specs.Graphs.{segment_at, initial, Has}
use Rattle.es_fork.specs.Walks.{Walk, alone, onward}

-- a walk comes to the segment, with this trace before it
pub data Enters (g : List Segment) : ℕ → List Label → Type 0 where
  start : Enters g initial []
  along : {s : ℕ} {t : List Label} {s' : ℕ} → Enters g s t → Has (segment_at g s).next s' → Enters g s' (t ++ (segment_at g s).labels)

pub enters_walk : {g : List Segment} {s : ℕ} {t : List Label} → Enters g s t → Walk g s (t ++ (segment_at g s).labels)
enters_walk start = alone
enters_walk (along x m) = onward (enters_walk x) m

pub walk_enters : {g : List Segment} {s : ℕ} {w : List Label} → Walk g s w → (t : List Label) × Enters g s t × (w ≡ t ++ (segment_at g s).labels)
walk_enters alone = ([], start, refl)
walk_enters {g} (onward {last = last} {next = next} {word = word} x m) =
    let r = walk_enters x in
    (word, subst (λ t. Enters g next t) (sym r.2) (along r.1 m), refl)
