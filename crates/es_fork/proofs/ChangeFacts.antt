-- The segments after a change, one by one: which stay, which are new, and what their fields are.
use Rattle.std.proofs.Common.{◌≡◌, ◌≢◌, ℕ, zero, suc, ◌+◌, ◌-◌, ◌<◌, ◌≤◌, ◌==◌, ◌||◌, Bool, true, false, List, [], ◌∷◌, ◌++◌, ◌⊎◌, inl, inr, length, map, refl, sym, ◌∙◌, ap, subst, arith, get_or, length-append}
use Rattle.std.proofs.lemmas.Bool.{cases_eq, cases_Bool, eqb-true, eq-eqb}
use Rattle.std.proofs.lemmas.List.{get_or_append_left, get_or-append_right, length-map}
use Rattle.std.proofs.Math.ListN.{get_or-map}
use Rattle.std.specs.List.{list_any}
use Rattle.es_fork.specs.declared.segment.Segment.{Segment}
use Rattle.es_fork.specs.declared.segment.Label.{Label}
use Rattle.es_fork.specs.Graphs.{segment_at, no_segment, Has, IsOf, IsDistinct}
use Rattle.es_fork.specs.Walks.{HasEdge}
use Rattle.es_fork.specs.Edges.{AreFrom}
use Rattle.es_fork.specs.Changes.{fresh, grown, labelled_at, edge_put, has_edge, edged, connected}
use Rattle.es_fork.proofs.GraphsLemmas.{segment_at-set_same, segment_at-set_other, Has-append_left, Has-last, Has-push, IsOf-length, segment_at-index}
use Rattle.es_fork.proofs.ChangesLemmas.{length-labelled_at, length-edge_put, edged_there, edged_missing}

-- a label more at the end of one segment's
pub record Labelled (g : List Segment) (at : ℕ) (label : Label) (g' : List Segment) : Type 0 where
  pub len : length g' ≡ length g
  pub here : segment_at g' at ≡ record (segment_at g at) { labels = (segment_at g at).labels ++ label ∷ [] }
  pub rest : (x : ℕ) → x ≢ at → segment_at g' x ≡ segment_at g x

pub labelled_facts : (g : List Segment) (at : ℕ) (label : Label) → IsOf g at → Labelled g at label (labelled_at g at label)
unfolding labelled_at
labelled_facts g at label of = record {
  len = length-labelled_at g at label;
  here = segment_at-set_same g at _ of;
  rest = λ x ne. segment_at-set_other g at x _ of.from_one ne;
}

pub labelled-next : {g : List Segment} {at : ℕ} {label : Label} {g' : List Segment} → Labelled g at label g' → (x : ℕ) → (segment_at g' x).next ≡ (segment_at g x).next
labelled-next {g} {at} {label} {g'} f x = elim (cases_eq x at) [
  | inl e ↦ subst (λ k. (segment_at g' k).next ≡ (segment_at g k).next) (sym e) (ap (λ r. r.next) f.here)
  | inr ne ↦ ap (λ r. r.next) (f.rest x ne)
]

pub labelled-reachable : {g : List Segment} {at : ℕ} {label : Label} {g' : List Segment} → Labelled g at label g' → (x : ℕ) → (segment_at g' x).reachable ≡ (segment_at g x).reachable
labelled-reachable {g} {at} {label} {g'} f x = elim (cases_eq x at) [
  | inl e ↦ subst (λ k. (segment_at g' k).reachable ≡ (segment_at g k).reachable) (sym e) (ap (λ r. r.reachable) f.here)
  | inr ne ↦ ap (λ r. r.reachable) (f.rest x ne)
]

-- the edges that are asked for, each once
pub record Connected (g : List Segment) (edges : List (ℕ × ℕ)) (g' : List Segment) : Type 0 where
  pub len : length g' ≡ length g
  pub labels : (x : ℕ) → (segment_at g' x).labels ≡ (segment_at g x).labels
  pub reachable : (x : ℕ) → (segment_at g' x).reachable ≡ (segment_at g x).reachable
  pub old : (x y : ℕ) → HasEdge g x y → HasEdge g' x y
  pub new : (x y : ℕ) → Has edges (x, y) → HasEdge g' x y
  pub only : (x y : ℕ) → HasEdge g' x y → HasEdge g x y ⊎ Has edges (x, y)
  pub rest : (x : ℕ) → ((y : ℕ) → Has edges (x, y) → ⊥) → segment_at g' x ≡ segment_at g x
  pub distinct : ((x : ℕ) → IsDistinct (segment_at g x).next) → (x : ℕ) → IsDistinct (segment_at g' x).next

has_edge-true : (g : List Segment) (from to : ℕ) → has_edge g from to ≡ true → HasEdge g from to
has_edge-true g from to e = go (segment_at g from).next e
  where
    go : (ids : List ℕ) → list_any (λ next. next == to) ids ≡ true → Has ids to
    go [] q = absurd (let z : false ≡ true = q in cc)
    go (id ∷ ids) q = elim (cases_Bool (id == to)) [
      | inl y ↦ inl (eqb-true id to y)
      | inr n ↦ inr (go ids (ap (λ b. b || list_any (λ next. next == to) ids) (sym n) ∙ q))
    ]

has_edge-false : (g : List Segment) (from to : ℕ) → has_edge g from to ≡ false → HasEdge g from to → ⊥
has_edge-false g from to e = go (segment_at g from).next e
  where
    go : (ids : List ℕ) → list_any (λ next. next == to) ids ≡ false → Has ids to → ⊥
    go [] q h = h
    go (id ∷ ids) q (inl y) = absurd (let t : true ≡ false = sym (ap (λ b. b || list_any (λ next. next == to) ids) (eq-eqb id to y)) ∙ q in cc)
    go (id ∷ ids) q (inr h) = elim (cases_Bool (id == to)) [
      | inl y ↦ absurd (let t : true ≡ false = sym (ap (λ b. b || list_any (λ next. next == to) ids) y) ∙ q in cc)
      | inr n ↦ go ids (ap (λ b. b || list_any (λ next. next == to) ids) (sym n) ∙ q) h
    ]

IsDistinct-push : (ids : List ℕ) (id : ℕ) → IsDistinct ids → (Has ids id → ⊥) → IsDistinct (ids ++ id ∷ [])
IsDistinct-push [] id d missing = (λ h. h, tt)
IsDistinct-push (x ∷ ids) id d missing =
    (λ h. elim (Has-push ids id x h) [ inl y ↦ d.0 y | inr e ↦ missing (inl e) ], IsDistinct-push ids id d.1 (λ h. missing (inr h)))

-- one edge
record EdgePut (g : List Segment) (from to : ℕ) (g' : List Segment) : Type 0 where
  here : segment_at g' from ≡ record (segment_at g from) { next = (segment_at g from).next ++ to ∷ [] }
  there : (x : ℕ) → x ≢ from → segment_at g' x ≡ segment_at g x

edge_put_facts : (g : List Segment) (from to : ℕ) → IsOf g from → EdgePut g from to (edge_put g from to)
unfolding edge_put
edge_put_facts g from to of = record { here = segment_at-set_same g from _ of; there = λ x ne. segment_at-set_other g from x _ of.from_one ne }

-- a fact of the segment that the edge leaves, and of each other one
put_at : {g : List Segment} {from to : ℕ} {g' : List Segment} → EdgePut g from to g' → (P : Segment → Segment → Type 0) (x : ℕ)
    → P (segment_at g from) (record (segment_at g from) { next = (segment_at g from).next ++ to ∷ [] }) → ((s : Segment) → P s s) → P (segment_at g x) (segment_at g' x)
put_at {g} {from} {to} {g'} f P x here same = elim (cases_eq x from) [
  | inl e ↦ subst (λ k. P (segment_at g k) (segment_at g' k)) (sym e) (subst (P (segment_at g from)) (sym f.here) here)
  | inr ne ↦ subst (P (segment_at g x)) (sym (f.there x ne)) (same (segment_at g x))
]

put_connected : (g : List Segment) (from to : ℕ) → IsOf g from → (HasEdge g from to → ⊥) → Connected g ((from, to) ∷ []) (edge_put g from to)
put_connected g from to of missing =
    let f = edge_put_facts g from to of in
    record {
      len = length-edge_put g from to;
      labels = λ x. put_at f (λ s t. t.labels ≡ s.labels) x refl (λ s. refl);
      reachable = λ x. put_at f (λ s t. t.reachable ≡ s.reachable) x refl (λ s. refl);
      old = λ x y. put_at f (λ s t. Has s.next y → Has t.next y) x (Has-append_left (segment_at g from).next (to ∷ []) y) (λ s h. h);
      new = λ x y h. elim h [ inl e ↦ subst (λ p. HasEdge (edge_put g from to) p.0 p.1) e (subst (λ s. Has s.next to) (sym f.here) (Has-last (segment_at g from).next to)) | inr n ↦ absurd n ];
      only = λ x y h. elim (cases_eq x from) [
        | inl e ↦ elim (Has-push (segment_at g from).next to y (subst (λ s. Has s.next y) f.here (subst (λ k. HasEdge (edge_put g from to) k y) e h))) [
          | inl o ↦ inl (subst (λ k. HasEdge g k y) (sym e) o)
          | inr q ↦ inr (inl (λ k. (sym e k, sym q k)))
        ]
        | inr ne ↦ inl (subst (λ s. Has s.next y) (f.there x ne) h)
      ];
      rest = λ x none. f.there x (λ e. none to (inl (λ k. (sym e k, to))));
      distinct = λ d x. put_at f (λ s t. IsDistinct s.next → IsDistinct t.next) x (λ q. IsDistinct-push (segment_at g from).next to q missing) (λ s q. q) (d x);
    }

edged_connected : (g : List Segment) (from to : ℕ) → IsOf g from → Connected g ((from, to) ∷ []) (edged g from to)
edged_connected g from to of = elim (cases_Bool (has_edge g from to)) [
  | inl e ↦ subst (Connected g ((from, to) ∷ [])) (sym (edged_there g from to e)) (record {
    len = refl;
    labels = λ x. refl;
    reachable = λ x. refl;
    old = λ x y h. h;
    new = λ x y h. elim h [ inl q ↦ subst (λ p. HasEdge g p.0 p.1) q (has_edge-true g from to e) | inr n ↦ absurd n ];
    only = λ x y h. inl h;
    rest = λ x none. refl;
    distinct = λ d. d;
  })
  | inr e ↦ subst (Connected g ((from, to) ∷ [])) (sym (edged_missing g from to e)) (put_connected g from to of (has_edge-false g from to e))
]

pub connected_facts : (edges : List (ℕ × ℕ)) (g : List Segment) → AreFrom g edges → Connected g edges (connected g edges)
connected_facts [] g from = record {
  len = refl;
  labels = λ x. refl;
  reachable = λ x. refl;
  old = λ x y h. h;
  new = λ x y h. absurd h;
  only = λ x y h. inl h;
  rest = λ x none. refl;
  distinct = λ d. d;
}
connected_facts (edge ∷ edges) g from =
    let m : List Segment = edged g edge.0 edge.1 in
    let a : Connected g (edge ∷ []) m = edged_connected g edge.0 edge.1 (from edge (inl refl)) in
    let b : Connected m edges (connected m edges) = connected_facts edges m (λ e h. IsOf-length g m e.0 a.len (from e (inr h))) in
    record {
      len = b.len ∙ a.len;
      labels = λ x. b.labels x ∙ a.labels x;
      reachable = λ x. b.reachable x ∙ a.reachable x;
      old = λ x y h. b.old x y (a.old x y h);
      new = λ x y h. elim h [ inl e ↦ b.old x y (a.new x y (inl e)) | inr r ↦ b.new x y r ];
      only = λ x y h. elim (b.only x y h) [ inl o ↦ elim (a.only x y o) [ inl q ↦ inl q | inr r ↦ elim r [ inl e ↦ inr (inl e) | inr n ↦ absurd n ] ] | inr r ↦ inr (inr r) ];
      rest = λ x none. b.rest x (λ y h. none y (inr h)) ∙ a.rest x (λ y h. elim h [ inl e ↦ none y (inl e) | inr n ↦ absurd n ]);
      distinct = λ d. b.distinct (a.distinct d);
    }

-- new segments at the end, without labels and edges
pub record Grown (g : List Segment) (flags : List Bool) (g' : List Segment) : Type 0 where
  pub len : length g' ≡ length g + length flags
  pub old : (x : ℕ) → x ≤ length g → segment_at g' x ≡ segment_at g x
  pub new : (x : ℕ) → length g < x → segment_at g' x ≡ fresh (get_or flags (x - length g - 1) false)

pub grown_facts : (g : List Segment) (flags : List Bool) → Grown g flags (grown g flags)
unfolding grown
grown_facts g flags = record {
  len = length-append g (map fresh flags) ∙ ap (λ n. length g + n) (length-map flags fresh);
  old = old;
  new = λ x past.
      let e : x - 1 - length g ≡ x - length g - 1 = omega arith in
      segment_at-index (g ++ map fresh flags) (x - 1) x (omega arith)
      ∙ get_or-append_right g (map fresh flags) (length g) (x - 1) no_segment refl (omega arith)
      ∙ get_or-map fresh flags (x - 1 - length g) false ∙ ap (λ n. fresh (get_or flags n false)) e;
}
  where
    old : (x : ℕ) → x ≤ length g → segment_at (g ++ map fresh flags) x ≡ segment_at g x
    old zero le = refl
    old (suc j) le = get_or_append_left g (map fresh flags) no_segment j (omega arith)
