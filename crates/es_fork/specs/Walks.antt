-- Walks of a graph, their words, and the graphs whose segments say rightly which a walk reaches.
use Rattle.std.specs.Prelude.{ℕ, ◌<◌, ◌≤◌, ◌^◌, List, ◌++◌, length, IsTrue, ◌↔◌}
use Rattle.es_fork.specs.declared.segment.Segment.{Segment}
use Rattle.es_fork.specs.declared.segment.Label.{Label}
use Rattle.es_fork.specs.Graphs.{Parts, segment_at, initial, Has, IsOf, AreOf, IsDistinct}

abbrev pub HasEdge : List Segment → ℕ → ℕ → Type 0
HasEdge segments from to = Has (segment_at segments from).next to

-- a walk starts at the initial segment, follows edges and ends in the segment; its word is the labels
-- of its segments, joined
pub data Walk (segments : List Segment) : ℕ → List Label → Type 0 where
  alone : Walk segments initial (segment_at segments initial).labels
  onward : {last next : ℕ} {word : List Label} → Walk segments last word → HasEdge segments last next
      → Walk segments next (word ++ (segment_at segments next).labels)

abbrev pub IsReachable : List Segment → ℕ → Type 0
IsReachable segments id = (word : List Label) × Walk segments id word

-- what holds of each graph
pub record IsGraph (graph : Parts) : Type 0 where
  pub some : 1 ≤ length graph.segments
  pub few : length graph.segments < 2 ^ 32
  pub next : (from to : ℕ) → HasEdge graph.segments from to → IsOf graph.segments to
  pub returned : AreOf graph.segments graph.returned
  pub thrown : AreOf graph.segments graph.thrown
  -- no edge stands there twice
  pub distinct : (from : ℕ) → IsDistinct (segment_at graph.segments from).next
  pub reachable : (id : ℕ) → IsTrue (segment_at graph.segments id).reachable ↔ IsReachable graph.segments id
