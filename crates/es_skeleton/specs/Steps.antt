-- The steps of a graph at single heads.
use Rattle.std.specs.Prelude.{◌≡◌, ℕ, suc, Bool, true, false, ◌||◌, List, [], ◌∷◌, length, map, IsTrue}
use Rattle.es_fork.specs.declared.segment.Segment.{Segment}
use Rattle.es_fork.specs.declared.segment.Label.{Label}
use Rattle.es_fork.specs.declared.fork.Fork.{Fork}
use Rattle.es_fork.specs.Graphs.{segment_at, Has}
use Rattle.es_fork.specs.Changes.{grown, connected, labelled_at}

abbrev pub fork_of : ℕ → Fork
fork_of head = record { heads = head ∷ [] }

-- the number of the next new segment
abbrev pub next_number : List Segment → ℕ
next_number g = suc (length g)

abbrev pub some_reachable : List Segment → List ℕ → Bool
some_reachable g [] = false
some_reachable g (h ∷ hs) = (segment_at g h).reachable || some_reachable g hs

-- an edge from each head to the segment
abbrev pub edges_from : List ℕ → ℕ → List (ℕ × ℕ)
edges_from hs to = map (λ h. (h, to)) hs

-- the graph with these edges, but for those that are there already
abbrev pub looped : List Segment → List ℕ → ℕ → List Segment
looped g hs to = connected g (edges_from hs to)

-- a new segment after these heads
abbrev pub led : List Segment → List ℕ → Bool → List Segment
led g hs reachable = looped (grown g (reachable ∷ [])) hs (next_number g)

abbrev pub new_next : List Segment → ℕ → List Segment
new_next g h = led g (h ∷ []) (segment_at g h).reachable

abbrev pub join : List Segment → List ℕ → List Segment
join g hs = led g hs (some_reachable g hs)

abbrev pub unreachable : List Segment → List Segment
unreachable g = led g [] false

-- the labels one after another at the end of the segment's
abbrev pub said : List Segment → ℕ → List Label → List Segment
said g at [] = g
said g at (l ∷ ls) = said (labelled_at g at l) at ls

-- where a head is reachable, so is the segment
abbrev pub LeadsTo : List Segment → List ℕ → ℕ → Type 0
LeadsTo g hs to = (h : ℕ) → Has hs h → IsTrue (segment_at g h).reachable → IsTrue (segment_at g to).reachable

-- from the heads the graph goes on at one; at an unreachable one, where there is none
pub data GoesOn (hs : List ℕ) (g : List Segment) : List Segment → ℕ → Bool → Type 0 where
  joined : {h : ℕ} {rest : List ℕ} → hs ≡ h ∷ rest → GoesOn hs g (join g hs) (next_number g) true
  alone : {h : ℕ} → hs ≡ h ∷ [] → GoesOn hs g g h true
  never : hs ≡ [] → GoesOn hs g (unreachable g) (next_number g) false
