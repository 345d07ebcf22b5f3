-- The parts of a graph: its segments by number, and those in which its walks end.
use Rattle.std.specs.Prelude.{◌≡◌, ℕ, zero, suc, ◌≤◌, List, [], ◌∷◌, length, false, slice_index_or, ◌⊎◌}
use Rattle.es_fork.specs.declared.segment.Segment.{Segment}

pub record Parts : Type 0 where
  pub segments : List Segment
  pub returned : List ℕ
  pub thrown : List ℕ

abbrev pub no_segment : Segment
no_segment = record { labels = []; next = []; reachable = false }

-- the segment with this number, from 1; an empty one where there is none
abbrev pub segment_at : List Segment → ℕ → Segment
segment_at segments zero = no_segment
segment_at segments (suc index) = slice_index_or segments index no_segment

-- the number of the initial segment
abbrev pub initial : ℕ
initial = 1

-- the number is that of a segment
pub record IsOf (segments : List Segment) (id : ℕ) : Type 0 where
  pub from_one : 1 ≤ id
  pub to_last : id ≤ length segments

-- the value is one of the list
abbrev pub Has : {A : Type 0} → List A → A → Type 0
Has [] y = ⊥
Has (x ∷ xs) y = (x ≡ y) ⊎ Has xs y

-- each of the numbers is that of a segment
abbrev pub AreOf : List Segment → List ℕ → Type 0
AreOf segments ids = (id : ℕ) → Has ids id → IsOf segments id

-- no value stands twice in the list
abbrev pub IsDistinct : {A : Type 0} → List A → Type 0
IsDistinct [] = Unit {0}
IsDistinct (x ∷ xs) = (Has xs x → ⊥) × IsDistinct xs
