-- Lists of edges, as the changes of a graph go over them.
use Rattle.std.specs.Prelude.{◌≡◌, ℕ, ◌<◌, ◌≤◌, ◌+◌, ◌-◌, Bool, true, false, List, nat_le, map, filter, take, length, slice_index_or}
use Rattle.es_fork.specs.declared.segment.Segment.{Segment}
use Rattle.es_fork.specs.Graphs.{segment_at, Has, IsOf}

-- each edge begins at one of the segments
abbrev pub AreFrom : List Segment → List (ℕ × ℕ) → Type 0
AreFrom segments edges = (edge : ℕ × ℕ) → Has edges edge → IsOf segments edge.0

-- each edge leads past the number
abbrev pub ArePast : ℕ → List (ℕ × ℕ) → Type 0
ArePast last edges = (edge : ℕ × ℕ) → Has edges edge → last < edge.1

-- the first segments, so many, without edges to later ones
abbrev pub before : ℕ → Segment → Segment
before last segment = record segment { next = filter (λ id. nat_le id last) segment.next }

-- cut back to the segments that there were, the new list is the old one
abbrev pub IsCutBack : List Segment → List Segment → Type 0
IsCutBack old new = map (before (length old)) (take (length old) new) ≡ old

-- what edges to new segments need: they begin at old ones and end at new ones, which are reachable
-- exactly where one of the edges comes from a reachable segment
pub record LeadsToNew (g : List Segment) (flags : List Bool) (edges : List (ℕ × ℕ)) : Type 0 where
  pub from : AreFrom g edges
  pub past : (x y : ℕ) → Has edges (x, y) → length g < y
  pub within : (x y : ℕ) → Has edges (x, y) → y ≤ length g + length flags
  pub leads : (x y : ℕ) → Has edges (x, y) → (segment_at g x).reachable ≡ true → slice_index_or flags (y - length g - 1) false ≡ true
  pub comes : (y : ℕ) → length g < y → slice_index_or flags (y - length g - 1) false ≡ true → (x : ℕ) × Has edges (x, y) × ((segment_at g x).reachable ≡ true)
