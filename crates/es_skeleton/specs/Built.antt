-- How a graph is built for a skeleton, from one open head.
use Rattle.std.specs.Prelude.{◌≡◌, ℕ, List, [], ◌∷◌, ◌++◌, ◌+◌, ◌<◌, ◌≤◌, Bool, true, false}
use Rattle.es_fork.specs.declared.segment.Segment.{Segment}
use Rattle.es_fork.specs.declared.segment.Label.{Label}
use Rattle.es_fork.specs.Graphs.{Parts, segment_at}
use Rattle.es_fork.specs.Changes.{labelled_at}
use Rattle.es_skeleton.specs.declared.completion.Completion.{Completion}
use Rattle.es_skeleton.specs.declared.completion.Completion.TheVariants.{Normal}
use Rattle.es_skeleton.specs.declared.pending.Pending.{Pending}
use Rattle.es_skeleton.specs.Controls.{Control, Emit, Exit, Catch, Choice, Loop, Finally}
use Rattle.es_skeleton.specs.Pendings.{Waits, heads, others, recoded}
use Rattle.es_skeleton.specs.Steps.{next_number, new_next, join, unreachable, looped, said, GoesOn}

-- a head that can be labelled: a segment of the graph that no edge leaves
pub record Head (g : List Segment) (at : ℕ) : Type 0 where
  pub above : 1 ≤ at
  pub below : at < next_number g
  pub open_at : (segment_at g at).next ≡ []

-- the heads that wait in g are open segments of it, as reachable as v, and none waits twice
pub record Waiting (g : List Segment) (ps : List Pending) (v : Bool) : Type 0 where
  pub above : (c : Completion) (h : ℕ) → Waits ps c h → 1 ≤ h
  pub below : (c : Completion) (h : ℕ) → Waits ps c h → h < next_number g
  pub open_at : (c : Completion) (h : ℕ) → Waits ps c h → (segment_at g h).next ≡ []
  pub lives : (c : Completion) (h : ℕ) → Waits ps c h → (segment_at g h).reachable ≡ v
  pub one : (c d : Completion) (h : ℕ) → Waits ps c h → Waits ps d h → c ≡ d

abbrev pub at_head : Completion → ℕ → Pending
at_head c h = record { completion = c; head = h }

-- the labels of a skeleton in their order
abbrev pub labels_of : Control → List Label
labels_of (Emit l) = l ∷ []
labels_of (Exit c) = []
labels_of (Catch c a b) = labels_of a ++ labels_of b
labels_of (Choice a b) = labels_of a ++ labels_of b
labels_of (Loop a) = labels_of a
labels_of (Finally a b) = labels_of a ++ labels_of b

mutual
  pub data Built : Control → List Segment → ℕ → List Segment → List Pending → Type 0 where
    b_emit : {l : Label} {g : List Segment} {at : ℕ} → Built (Emit l) g at (labelled_at g at l) (at_head Normal at ∷ [])
    b_exit : {c : Completion} {g : List Segment} {at : ℕ} → Built (Exit c) g at g (at_head c at ∷ [])
    b_catch : {c : Completion} {a b : Control} {g g1 m g2 : List Segment} {at h : ℕ} {ps qs : List Pending}
        → Built a g at g1 ps → GoesOn (heads c ps) g1 m h true → Built b m h g2 qs → Built (Catch c a b) g at g2 (others c ps ++ qs)
    -- what is built of the second part is never met
    b_dead : {c : Completion} {a b : Control} {g g1 m g2 : List Segment} {at h : ℕ} {ps qs : List Pending}
        → Built a g at g1 ps → GoesOn (heads c ps) g1 m h false → Built b m h g2 qs → Built (Catch c a b) g at g2 (others c ps)
    b_choice : {a b : Control} {g g1 g2 : List Segment} {at : ℕ} {ps qs : List Pending}
        → Built a (new_next g at) (next_number g) g1 ps → Built b (new_next g1 at) (next_number g1) g2 qs → Built (Choice a b) g at g2 (ps ++ qs)
    b_loop : {a : Control} {g g1 : List Segment} {at : ℕ} {ps : List Pending}
        → Built a (new_next g at) (next_number g) g1 ps → Built (Loop a) g at (looped g1 (heads Normal ps) (next_number g)) (others Normal ps)
    b_finally : {a b : Control} {g g1 g2 : List Segment} {at : ℕ} {p : Pending} {ps qs : List Pending}
        → Built a g at g1 (p ∷ ps) → Copied b (p ∷ ps) g1 g2 qs → Built (Finally a b) g at g2 qs
    -- a finalizer that never runs: its labels stand in one unreachable segment
    b_never : {a b : Control} {g g1 : List Segment} {at : ℕ}
        → Built a g at g1 [] → Built (Finally a b) g at (said (unreachable g1) (next_number g1) (labels_of b)) []
    -- one completion becomes another, and no segment is made
    b_recode : {c d : Completion} {a : Control} {g g1 : List Segment} {at : ℕ} {ps : List Pending}
        → Built a g at g1 ps → Built (Catch c a (Exit d)) g at g1 (recoded c d ps)
    -- the order of the heads that wait is free
    b_same : {k : Control} {g g1 : List Segment} {at : ℕ} {ps qs : List Pending}
        → Built k g at g1 ps → ((c : Completion) (h : ℕ) → Waits qs c h → Waits ps c h)
        → ((c : Completion) (h : ℕ) → Waits ps c h → Waits qs c h) → Built k g at g1 qs

  -- a copy of the finalizer for each completion that waits
  pub data Copied : Control → List Pending → List Segment → List Segment → List Pending → Type 0 where
    c_done : {b : Control} {g : List Segment} → Copied b [] g g []
    c_more : {b : Control} {g g1 g2 : List Segment} {p : Pending} {ps qs rs : List Pending}
        → Built b (join g (heads p.completion (p ∷ ps))) (next_number g) g1 qs → Copied b (others p.completion (p ∷ ps)) g1 g2 rs
        → Copied b (p ∷ ps) g g2 (recoded Normal p.completion qs ++ rs)

-- the same of whole graphs, whose ends stay
pub record Makes (k : Control) (g : Parts) (at : ℕ) (g' : Parts) (ps : List Pending) : Type 0 where
  pub built : Built k g.segments at g'.segments ps
  pub returned : g'.returned ≡ g.returned
  pub thrown : g'.thrown ≡ g.thrown

pub record MakesCopies (b : Control) (ps : List Pending) (g g' : Parts) (qs : List Pending) : Type 0 where
  pub copies : Copied b ps g.segments g'.segments qs
  pub returned : g'.returned ≡ g.returned
  pub thrown : g'.thrown ≡ g.thrown

abbrev pub SomeWait : List Segment → List Pending → Type 0
SomeWait g ps = (v : Bool) × Waiting g ps v

-- how large a skeleton is
abbrev pub weight : Control → ℕ
weight (Emit l) = 1
weight (Exit c) = 1
weight (Catch c a b) = 1 + weight a + weight b
weight (Choice a b) = 1 + weight a + weight b
weight (Loop a) = 1 + weight a
weight (Finally a b) = 1 + weight a + weight b
