-- What the calls ask of forks.
use Rattle.std.specs.Prelude.{◌≡◌, ℕ, ◌<◌, ◌≤◌, List, length, IsTrue, slice_index}
use Rattle.es_fork.specs.declared.segment.Segment.{Segment}
use Rattle.es_fork.specs.declared.fork.Fork.{Fork}
use Rattle.es_fork.specs.declared.fork.ForkFault.{ForkFault}
use Rattle.es_fork.specs.declared.fork.ForkFault.TheVariants.{TooWide, NoMemory}
use Rattle.es_fork.specs.Graphs.{segment_at, Has, AreOf, IsDistinct}
use Rattle.es_fork.specs.Changes.{width}

-- the most heads of a fork
abbrev pub most_heads : ℕ
most_heads = 64

-- a fork of these segments: 1 to 64 heads, all distinct
pub record IsFork (segments : List Segment) (heads : List ℕ) : Type 0 where
  pub some : 1 ≤ length heads
  pub few : length heads ≤ most_heads
  pub distinct : IsDistinct heads
  pub within : AreOf segments heads

-- at least one part, each a fork of these segments
pub record AreForks (segments : List Segment) (parts : List Fork) : Type 0 where
  pub some : 1 ≤ length parts
  pub forks : (part : Fork) → Has parts part → IsFork segments part.heads

-- all parts have equal numbers of heads
abbrev pub AreAlike : List Fork → Type 0
AreAlike parts = (part : Fork) → Has parts part → length part.heads ≡ width parts

-- where a head is reachable, so is the one at its index
abbrev pub LeadsOn : List Segment → List ℕ → List ℕ → Type 0
LeadsOn segments from to = (index : ℕ) → index < length from
    → IsTrue (segment_at segments (slice_index from index)).reachable → IsTrue (segment_at segments (slice_index to index)).reachable

-- too many heads for a fork, with their number; or want of memory, which has no cause
abbrev pub IsTooWide : List ℕ → ForkFault → Type 0
IsTooWide heads (TooWide copies) = (most_heads < length heads) × (copies ≡ length heads)
IsTooWide heads NoMemory = Unit {0}
