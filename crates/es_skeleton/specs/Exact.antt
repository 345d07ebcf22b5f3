-- A graph is exact for a skeleton: its walks are the skeleton's runs.
use Rattle.std.specs.Prelude.{◌≡◌, ℕ, List, ◌++◌, ◌⊎◌, ◌↔◌, IsTrue}
use Rattle.es_fork.specs.declared.segment.Label.{Label}
use Rattle.es_fork.specs.Graphs.{Parts, segment_at, Has, IsOf, AreOf}
use Rattle.es_fork.specs.Walks.{Walk, HasEdge, IsReachable}
use Rattle.es_skeleton.specs.declared.completion.Completion.TheVariants.{Normal, Return, Throw}
use Rattle.es_skeleton.specs.Controls.{Control, Emit, Exit, Catch, Choice, Loop, Finally}
use Rattle.es_skeleton.specs.Runs.{Run, Cut}

-- the labels of a skeleton
abbrev pub Says : Control → Label → Type 0
Says (Emit l) x = l ≡ x
Says (Exit c) x = ⊥
Says (Catch c a b) x = Says a x ⊎ Says b x
Says (Choice a b) x = Says a x ⊎ Says b x
Says (Loop a) x = Says a x
Says (Finally a b) x = Says a x ⊎ Says b x

-- some walk that ends in one of the segments has the word
abbrev pub Ends : Parts → List ℕ → List Label → Type 0
Ends graph ids word = (id : ℕ) × Has ids id × Walk graph.segments id word

-- some walk's word begins with the trace
abbrev pub Begins : Parts → List Label → Type 0
Begins graph trace = (id : ℕ) × (rest : List Label) × Walk graph.segments id (trace ++ rest)

pub record Exact (k : Control) (graph : Parts) : Type 0 where
  pub returns : (word : List Label)
      → Ends graph graph.returned word ↔ (Run k word Normal ⊎ Run k word Return)
  pub throws : (word : List Label) → Ends graph graph.thrown word ↔ Run k word Throw
  pub prefixes : (trace : List Label) → Begins graph trace ↔ Cut k trace
  pub labels : (l : Label) → ((id : ℕ) × Has (segment_at graph.segments id).labels l) ↔ Says k l
  pub reachable : (id : ℕ)
      → IsTrue (segment_at graph.segments id).reachable ↔ IsReachable graph.segments id
  pub next : (from to : ℕ) → HasEdge graph.segments from to → IsOf graph.segments to
  pub returned : AreOf graph.segments graph.returned
  pub thrown : AreOf graph.segments graph.thrown
