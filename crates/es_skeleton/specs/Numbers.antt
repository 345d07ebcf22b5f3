-- Segments have their numbers in the order in which they were made.
use Rattle.std.specs.Prelude.{ℕ, ◌<◌, List}
use Rattle.es_fork.specs.declared.segment.Segment.{Segment}
use Rattle.es_fork.specs.Walks.{HasEdge}

-- a segment that is entered was entered when it was made, from one that was there before
abbrev pub AreInOrder : List Segment → Type 0
AreInOrder segments = (from to : ℕ) → HasEdge segments from to
    → (first : ℕ) × (first < to) × HasEdge segments first to
