-- A change keeps what holds of each graph.
use Rattle.std.proofs.Common.{◌≡◌, ◌≢◌, ℕ, zero, suc, ◌+◌, ◌-◌, ◌<◌, ◌≤◌, ◌^◌, Bool, true, false, List, [], ◌∷◌, ◌++◌, ◌⊎◌, inl, inr, length, refl, sym, ◌∙◌, ap, subst, arith, get_or, map, filter, nat_le, cond}
use Rattle.std.proofs.Math.Seq.{take-length}
use Rattle.std.proofs.lemmas.Bool.{cases_eq, cases_lt, false≢true, le-leb}
use Rattle.es_fork.specs.declared.segment.Segment.{Segment}
use Rattle.es_fork.specs.declared.segment.Label.{Label}
use Rattle.es_fork.specs.Graphs.{Parts, segment_at, no_segment, initial, Has, IsOf, AreOf, IsDistinct}
use Rattle.es_fork.specs.Walks.{HasEdge, Walk, alone, onward, IsReachable, IsGraph}
use Rattle.es_fork.specs.Edges.{AreFrom, LeadsToNew, before, IsCutBack}
use Rattle.es_fork.specs.Changes.{fresh, grown, labelled_at, labelled, connected}
use Rattle.es_fork.proofs.GraphsLemmas.{past_end, Has-append, IsOf-length}
use Rattle.es_fork.proofs.ChangeFacts.{labelled_facts, labelled-next, labelled-reachable, Connected, connected_facts, Grown, grown_facts}

-- the segments to which edges lead from the initial one
data Reach (g : List Segment) : ℕ → Type 0 where
  here : Reach g initial
  there : {s y : ℕ} → Reach g s → HasEdge g s y → Reach g y

reach_on : {g g' : List Segment} → ((s y : ℕ) → HasEdge g s y → HasEdge g' s y) → {s : ℕ} → Reach g s → Reach g' s
reach_on f here = here
reach_on f (there {s} {y} r e) = there (reach_on f r) (f s y e)

walk_of : {g : List Segment} {s : ℕ} → Reach g s → IsReachable g s
walk_of {g} here = ((segment_at g initial).labels, alone)
walk_of {g} (there {s} {y} r e) = let w = walk_of r in (w.0 ++ (segment_at g y).labels, onward w.1 e)

reach_of : {g : List Segment} {s : ℕ} {word : List Label} → Walk g s word → Reach g s
reach_of alone = here
reach_of (onward w e) = there (reach_of w) e

-- what holds of the segments
pub record IsSound (g : List Segment) : Type 0 where
  pub some : 1 ≤ length g
  pub next : (s y : ℕ) → HasEdge g s y → IsOf g y
  pub distinct : (s : ℕ) → IsDistinct (segment_at g s).next
  pub first : (segment_at g initial).reachable ≡ true
  -- what follows a reachable segment is reachable
  pub closed : (s y : ℕ) → HasEdge g s y → (segment_at g s).reachable ≡ true → (segment_at g y).reachable ≡ true

-- a segment that is said to be reachable is so
IsSeen : List Segment → Type 0
IsSeen g = (s : ℕ) → (segment_at g s).reachable ≡ true → Reach g s

sound_of : (graph : Parts) → IsGraph graph → IsSound graph.segments
sound_of graph k = record {
  some = k.some;
  next = k.next;
  distinct = k.distinct;
  first = (k.reachable initial).1 ((segment_at graph.segments initial).labels, alone);
  closed = λ s y e q. let w = (k.reachable s).0 q in (k.reachable y).1 (w.0 ++ (segment_at graph.segments y).labels, onward w.1 e);
}

seen_of : (graph : Parts) → IsGraph graph → IsSeen graph.segments
unfolding IsSeen
seen_of graph k s q = reach_of ((k.reachable s).0 q).1

reached : {g : List Segment} {s : ℕ} → IsSound g → Reach g s → (segment_at g s).reachable ≡ true
reached k here = k.first
reached k (there {s} {y} r e) = k.closed s y e (reached k r)

graph_of : (graph : Parts) → IsSound graph.segments → IsSeen graph.segments → length graph.segments < 2 ^ 32 → AreOf graph.segments graph.returned → AreOf graph.segments graph.thrown → IsGraph graph
unfolding IsSeen
graph_of graph k seen few returned thrown = record {
  some = k.some;
  few = few;
  next = k.next;
  returned = returned;
  thrown = thrown;
  distinct = k.distinct;
  reachable = λ s. (λ q. walk_of (seen s q), λ w. reached k (reach_of w.1));
}

-- ids stay where the list doesn't get shorter
longer_of : (g g' : List Segment) (ids : List ℕ) → length g ≤ length g' → AreOf g ids → AreOf g' ids
longer_of g g' ids le of id h = let o = of id h in record { from_one = o.from_one; to_last = let b = o.to_last in omega arith }

of_reachable : (g : List Segment) (s : ℕ) → (segment_at g s).reachable ≡ true → s ≤ length g
of_reachable g s q = elim (cases_lt (length g) s) [ inl past ↦ absurd (false≢true (sym (ap (λ r. r.reachable) (past_end g s past)) ∙ q)) | inr low ↦ low ]

labelled_at_keeps : (g : List Segment) (at : ℕ) (label : Label) → IsOf g at → IsSound g → IsSeen g → IsSound (labelled_at g at label) × IsSeen (labelled_at g at label)
unfolding IsSeen
labelled_at_keeps g at label of k seen =
    let f = labelled_facts g at label of in
    let n = f.len in
    let some = k.some in
    let back : (s y : ℕ) → HasEdge (labelled_at g at label) s y → HasEdge g s y = λ s y e. subst (λ ids. Has ids y) (labelled-next f s) e in (
      record {
        some = omega arith;
        next = λ s y e. IsOf-length g (labelled_at g at label) y n (k.next s y (back s y e));
        distinct = λ s. subst IsDistinct (sym (labelled-next f s)) (k.distinct s);
        first = labelled-reachable f initial ∙ k.first;
        closed = λ s y e q. labelled-reachable f y ∙ k.closed s y (back s y e) (sym (labelled-reachable f s) ∙ q);
      },
      λ s q. reach_on (λ a b e. subst (λ ids. Has ids b) (sym (labelled-next f a)) e) (seen s (sym (labelled-reachable f s) ∙ q)),
    )

labelled_keeps : (heads : List ℕ) (g : List Segment) (label : Label) → AreOf g heads → IsSound g → IsSeen g → IsSound (labelled g heads label) × IsSeen (labelled g heads label)
labelled_keeps [] g label of k seen = (k, seen)
labelled_keeps (head ∷ heads) g label of k seen =
    let m = labelled_at g head label in
    let one = labelled_at_keeps g head label (of head (inl refl)) k seen in
    labelled_keeps heads m label (λ id h. IsOf-length g m id (labelled_facts g head label (of head (inl refl))).len (of id (inr h))) one.0 one.1

pub length-labelled : (heads : List ℕ) (g : List Segment) (label : Label) → AreOf g heads → length (labelled g heads label) ≡ length g
length-labelled [] g label of = refl
length-labelled (head ∷ heads) g label of =
    let f = labelled_facts g head label (of head (inl refl)) in
    length-labelled heads (labelled_at g head label) label (λ id h. IsOf-length g (labelled_at g head label) id f.len (of id (inr h))) ∙ f.len

pub graph_labelled : (graph : Parts) (heads : List ℕ) (label : Label) → AreOf graph.segments heads → IsGraph graph → IsGraph (record graph { segments = labelled graph.segments heads label })
graph_labelled graph heads label of k =
    let n = length-labelled heads graph.segments label of in
    let kept = labelled_keeps heads graph.segments label of (sound_of graph k) (seen_of graph k) in
    let few = k.few in
    graph_of _ kept.0 kept.1 (omega arith) (longer_of graph.segments _ graph.returned (omega arith) k.returned) (longer_of graph.segments _ graph.thrown (omega arith) k.thrown)

-- edges between segments that are there
pub graph_led : (graph : Parts) (edges : List (ℕ × ℕ)) → AreFrom graph.segments edges → ((x y : ℕ) → Has edges (x, y) → IsOf graph.segments y)
    → ((x y : ℕ) → Has edges (x, y) → (segment_at graph.segments x).reachable ≡ true → (segment_at graph.segments y).reachable ≡ true)
    → IsGraph graph → IsGraph (record graph { segments = connected graph.segments edges })
unfolding IsSeen
graph_led graph edges from to leads k =
    let g = graph.segments in
    let m = connected g edges in
    let f = connected_facts edges g from in
    let n = f.len in
    let few = k.few in
    let some = k.some in
    let old = sound_of graph k in
    graph_of _ (record {
      some = omega arith;
      next = λ s y e. elim (f.only s y e) [ inl o ↦ IsOf-length g m y n (k.next s y o) | inr h ↦ IsOf-length g m y n (to s y h) ];
      distinct = f.distinct k.distinct;
      first = f.reachable initial ∙ old.first;
      closed = λ s y e q. elim (f.only s y e) [
        | inl o ↦ f.reachable y ∙ old.closed s y o (sym (f.reachable s) ∙ q)
        | inr h ↦ f.reachable y ∙ leads s y h (sym (f.reachable s) ∙ q)
      ];
    }) (λ s q. reach_on f.old (seen_of graph k s (sym (f.reachable s) ∙ q))) (omega arith)
    (longer_of g m graph.returned (omega arith) k.returned) (longer_of g m graph.thrown (omega arith) k.thrown)

-- new segments, and the edges to them
module _ (graph : Parts) (flags : List Bool) (edges : List (ℕ × ℕ)) (new : LeadsToNew graph.segments flags edges) (k : IsGraph graph) where
  abbrev g : List Segment
  g = graph.segments

  abbrev h : List Segment
  h = grown g flags

  abbrev m : List Segment
  m = connected h edges

  grown_is : Grown g flags h
  grown_is = grown_facts g flags

  from : AreFrom h edges
  from edge e = let o = new.from edge e in let n = grown_is.len in record { from_one = o.from_one; to_last = let b = o.to_last in omega arith }

  connected_is : Connected h edges m
  connected_is = connected_facts edges h from

  old_edge : (s y : ℕ) → HasEdge h s y → HasEdge g s y
  old_edge s y e = elim (cases_lt (length g) s) [
    | inl past ↦ absurd (subst (λ r. Has r.next y) (grown_is.new s past) e)
    | inr le ↦ subst (λ r. Has r.next y) (grown_is.old s le) e
  ]

  keeps_edge : (s y : ℕ) → HasEdge g s y → HasEdge m s y
  keeps_edge s y e = connected_is.old s y (subst (λ r. Has r.next y) (sym (grown_is.old s le)) e)
    where
      le : s ≤ length g
      le = elim (cases_lt (length g) s) [ inl past ↦ absurd (subst (λ r. Has r.next y) (past_end g s past) e) | inr low ↦ low ]

  old_reachable : (s : ℕ) → s ≤ length g → (segment_at m s).reachable ≡ (segment_at g s).reachable
  old_reachable s le = connected_is.reachable s ∙ ap (λ r. r.reachable) (grown_is.old s le)

  new_reachable : (s : ℕ) → length g < s → (segment_at m s).reachable ≡ get_or flags (s - length g - 1) false
  new_reachable s past = connected_is.reachable s ∙ ap (λ r. r.reachable) (grown_is.new s past)

  pub length-made : length m ≡ length g + length flags
  length-made = connected_is.len ∙ grown_is.len

  of_made : (s : ℕ) → IsOf g s → IsOf m s
  of_made s o = let n = length-made in record { from_one = o.from_one; to_last = let b = o.to_last in omega arith }

  edge_of : (s y : ℕ) → HasEdge m s y → HasEdge g s y ⊎ Has edges (s, y)
  edge_of s y e = elim (connected_is.only s y e) [ inl o ↦ inl (old_edge s y o) | inr n ↦ inr n ]

  closed_made : (s y : ℕ) → HasEdge m s y → (segment_at m s).reachable ≡ true → (segment_at m y).reachable ≡ true
  closed_made s y e q = elim (edge_of s y e) [
    | inl o ↦
        let to = k.next s y o in
        let le = of_edge s y o in
        old_reachable y to.to_last ∙ (sound_of graph k).closed s y o (sym (old_reachable s le) ∙ q)
    | inr n ↦
        let o = new.from (s, y) n in
        new_reachable y (new.past s y n) ∙ new.leads s y n (sym (old_reachable s o.to_last) ∙ q)
  ]
    where
      of_edge : (a b : ℕ) → HasEdge g a b → a ≤ length g
      of_edge a b o = elim (cases_lt (length g) a) [ inl past ↦ absurd (subst (λ r. Has r.next b) (past_end g a past) o) | inr low ↦ low ]

  seen_made : (s : ℕ) → (segment_at m s).reachable ≡ true → Reach m s
  seen_made s q = elim (cases_lt (length g) s) [
    | inr le ↦ reach_on keeps_edge (reach_old s (sym (old_reachable s le) ∙ q))
    | inl past ↦
        let c = new.comes s past (sym (new_reachable s past) ∙ q) in
        there (reach_on keeps_edge (reach_old c.0 c.2)) (connected_is.new c.0 s c.1)
  ]
    where
      reach_old : (a : ℕ) → (segment_at g a).reachable ≡ true → Reach g a
      reach_old a r = reach_of ((k.reachable a).0 r).1

  distinct_grown : (s : ℕ) → IsDistinct (segment_at h s).next
  distinct_grown s = elim (cases_lt (length g) s) [
    | inl past ↦ subst (λ r. IsDistinct r.next) (sym (grown_is.new s past)) tt
    | inr le ↦ subst (λ r. IsDistinct r.next) (sym (grown_is.old s le)) (k.distinct s)
  ]

  pub graph_made : length g + length flags < 2 ^ 32 → IsGraph (record graph { segments = m })
  unfolding IsSeen
  graph_made few =
      let n = length-made in
      let some = k.some in
      graph_of _ (record {
        some = omega arith;
        next = λ s y e. elim (edge_of s y e) [
          | inl o ↦ of_made y (k.next s y o)
          | inr h ↦ record { from_one = let p = new.past s y h in omega arith; to_last = let w = new.within s y h in omega arith }
        ];
        distinct = connected_is.distinct distinct_grown;
        first = old_reachable initial some ∙ (sound_of graph k).first;
        closed = closed_made;
      }) seen_made (omega arith) (λ id h. of_made id (k.returned id h)) (λ id h. of_made id (k.thrown id h))

-- segments more among those in which walks end
pub graph_ended : (graph : Parts) (heads : List ℕ) → AreOf graph.segments heads → IsGraph graph → IsGraph (record graph { returned = graph.returned ++ heads })
graph_ended graph heads of k = record {
  some = k.some;
  few = k.few;
  next = k.next;
  distinct = k.distinct;
  reachable = k.reachable;
  thrown = k.thrown;
  returned = λ id h. elim (Has-append graph.returned heads id h) [ inl o ↦ k.returned id o | inr n ↦ of id n ];
}

pub graph_thrown : (graph : Parts) (heads : List ℕ) → AreOf graph.segments heads → IsGraph graph → IsGraph (record graph { thrown = graph.thrown ++ heads })
graph_thrown graph heads of k = record {
  some = k.some;
  few = k.few;
  next = k.next;
  distinct = k.distinct;
  reachable = k.reachable;
  returned = k.returned;
  thrown = λ id h. elim (Has-append graph.thrown heads id h) [ inl o ↦ k.thrown id o | inr n ↦ of id n ];
}

-- the graph of one segment
pub graph_new : IsGraph (record { segments = fresh true ∷ []; returned = []; thrown = [] })
unfolding IsSeen
graph_new = graph_of _ (record {
  some = omega arith;
  next = λ s y e. absurd (none s y e);
  distinct = λ s. subst (λ l. IsDistinct l) (sym (no_next s)) tt;
  first = refl;
  closed = λ s y e q. absurd (none s y e);
}) (λ s q. elim (cases_eq s initial) [
  | inl e ↦ subst (Reach (fresh true ∷ [])) (sym e) here
  | inr ne ↦ absurd (false≢true (sym (other s ne) ∙ q))
]) (omega arith) (λ id h. absurd h) (λ id h. absurd h)
  where
    no_next : (s : ℕ) → (segment_at (fresh true ∷ []) s).next ≡ []
    no_next zero = refl
    no_next (suc zero) = refl
    no_next (suc (suc s)) = refl

    none : (s y : ℕ) → HasEdge (fresh true ∷ []) s y → ⊥
    none s y e = subst (λ l. Has l y) (no_next s) e

    other : (s : ℕ) → s ≢ initial → (segment_at (fresh true ∷ []) s).reachable ≡ false
    other zero ne = refl
    other (suc zero) ne = absurd (ne refl)
    other (suc (suc s)) ne = refl

-- cut back to its own segments, a graph is what it was
pub graph_cut : (graph : Parts) → IsGraph graph → IsCutBack graph.segments graph.segments
graph_cut graph k = ap (map (before (length graph.segments))) (take-length graph.segments) ∙ all graph.segments same
  where
    within : (ids : List ℕ) → ((id : ℕ) → Has ids id → IsOf graph.segments id) → filter (λ id. nat_le id (length graph.segments)) ids ≡ ids
    within [] of = refl
    within (id ∷ ids) of =
        ap (λ b. cond b (id ∷ filter (λ i. nat_le i (length graph.segments)) ids) (filter (λ i. nat_le i (length graph.segments)) ids)) (le-leb id (length graph.segments) (of id (inl refl)).to_last)
        ∙ ap (λ l. id ∷ l) (within ids (λ i h. of i (inr h)))

    same : (i : ℕ) → before (length graph.segments) (segment_at graph.segments (suc i)) ≡ segment_at graph.segments (suc i)
    same i =
        let s = segment_at graph.segments (suc i) in
        λ j. record { labels = s.labels; next = within s.next (k.next (suc i)) j; reachable = s.reachable }

    all : (l : List Segment) → ((i : ℕ) → before (length graph.segments) (get_or l i no_segment) ≡ get_or l i no_segment) → map (before (length graph.segments)) l ≡ l
    all [] q = refl
    all (s ∷ l) q = λ j. q 0 j ∷ all l (λ i. q (suc i)) j
