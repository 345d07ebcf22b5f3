-- Each segment that is built is entered first from one that was there before.
use Rattle.std.proofs.Common.{◌≡◌, ◌≢◌, ℕ, zero, suc, ◌<◌, ◌≤◌, List, [], ◌∷◌, inl, inr, Bool, true, false, refl, sym, ◌∙◌, ap, subst, arith}
use Rattle.std.proofs.lemmas.Bool.{cases_eq}
use Rattle.es_fork.specs.declared.segment.Segment.{Segment}
use Rattle.es_fork.specs.Graphs.{Parts, segment_at, Has, IsOf}
use Rattle.es_fork.specs.Walks.{HasEdge}
use Rattle.es_fork.specs.Changes.{fresh}
use Rattle.es_skeleton.specs.declared.completion.Completion.TheVariants.{Normal}
use Rattle.es_skeleton.specs.declared.pending.Pending.{Pending}
use Rattle.es_skeleton.specs.Controls.{Control}
use Rattle.es_skeleton.specs.Pendings.{heads}
use Rattle.es_skeleton.specs.Steps.{next_number, some_reachable, unreachable, GoesOn, joined, alone, never}
use Rattle.es_skeleton.specs.Built.{Head, Waiting, labels_of, Built, b_emit, b_exit, b_catch, b_dead, b_choice, b_loop, b_finally, b_never, b_same, b_recode, Copied, c_done, c_more, Makes}
use Rattle.es_skeleton.specs.Numbers.{AreInOrder}
use Rattle.es_skeleton.proofs.StepsLemmas.{Edged, looped_facts, Fresh, fresh_facts, new_facts, edge_below, labelled_facts, said_facts, is_of}
use Rattle.es_skeleton.proofs.Frame.{frame, mid_of, mid_never, mid_join, wait_on, heads_first, fresh_head, frame_new, of_heads}

-- where no edge is added
same_order : (g g' : List Segment) → ((x : ℕ) → (segment_at g' x).next ≡ (segment_at g x).next) → AreInOrder g → AreInOrder g'
same_order g g' same o from to m =
    let r = o from to (subst (λ ids. Has ids to) (same from) m) in
    (r.0, r.1, subst (λ ids. Has ids to) (sym (same r.0)) r.2)

-- where a segment's labels alone change
labels_order : (g g' : List Segment) (at : ℕ) → (segment_at g' at).next ≡ (segment_at g at).next → ((x : ℕ) → x ≢ at → segment_at g' x ≡ segment_at g x) → AreInOrder g → AreInOrder g'
labels_order g g' at here rest = same_order g g' (λ x. elim (cases_eq x at) [
  | inl e ↦ subst (λ k. (segment_at g' k).next ≡ (segment_at g k).next) (sym e) here
  | inr ne ↦ ap (λ r. r.next) (rest x ne)
])

fresh_order : {g : List Segment} {hs : List ℕ} {b : Bool} {m : List Segment} → ((h : ℕ) → Has hs h → IsOf g h) → Fresh g hs b m → AreInOrder g → AreInOrder m
fresh_order {g} of f o from to m = elim (f.only from to m) [
  | inl e ↦ let r = o from to e in (r.0, r.1, f.old r.0 to (edge_below g r.0 to r.2) r.2)
  | inr r ↦ let last = (of from r.0).to_last in let q = r.1 in (from, omega arith, m)
]

edged_order : {g : List Segment} {hs : List ℕ} {j : ℕ} {m : List Segment} → (first : ℕ) → first < j → HasEdge g first j → Edged g hs j m → AreInOrder g → AreInOrder m
edged_order {j = j} {m = g'} first lt e f o from to m = elim (f.only from to m) [
  | inl x ↦ let r = o from to x in (r.0, r.1, f.old r.0 to r.2)
  | inr r ↦ let q = r.1 in (first, omega arith, subst (λ y. HasEdge g' first y) (sym r.1) (f.old first j e))
]

goes_order : {hs : List ℕ} {g m : List Segment} {h : ℕ} {b : Bool} → ((h : ℕ) → Has hs h → IsOf g h) → GoesOn hs g m h b → AreInOrder g → AreInOrder m
goes_order {hs = hs} {g = g} of (joined e) o = fresh_order of (fresh_facts g hs (some_reachable g hs) of) o
goes_order of (alone e) o = o
goes_order {g = g} of (never e) o = fresh_order (λ h m. absurd m) (fresh_facts g [] false (λ h m. absurd m)) o

at_of : {g : List Segment} {at : ℕ} → 1 ≤ at → at < next_number g → (h : ℕ) → Has (at ∷ []) h → IsOf g h
at_of {g} lo hi h m = elim m [ inl e ↦ subst (IsOf g) e (is_of lo hi) | inr n ↦ absurd n ]

mutual
  pub in_order : {k : Control} {g : List Segment} {at : ℕ} {g' : List Segment} {ps : List Pending} → Built k g at g' ps → Head g at → AreInOrder g → AreInOrder g'
  in_order (b_emit {l = l} {g = g} {at = at}) h o = let f = labelled_facts g at l (is_of h.above h.below) in labels_order g _ at (ap (λ r. r.next) f.here) f.rest o
  in_order b_exit h o = o
  in_order (b_catch {c = c} {ps = ps} a q b) h o =
      let w = (frame a h).waiting in
      in_order b (mid_of {c = c} {ps = ps} q w).head (goes_order (of_heads c w) q (in_order a h o))
  in_order (b_dead {c = c} {ps = ps} a q b) h o =
      in_order b (mid_never {c = c} {ps = ps} q).head (goes_order (of_heads c (frame a h).waiting) q (in_order a h o))
  in_order (b_choice {g = g} {g1 = g1} {at = at} a b) h o =
      let f = new_facts g at h.above h.below in
      let fa = frame a (fresh_head f) in
      let l = (frame_new h.above h.below fa).0.grows in
      let l0 = h.below in
      let n0 = f.len in
      let lt1 : at < next_number g1 = omega arith in
      let f' = new_facts g1 at h.above lt1 in
      let first = in_order a (fresh_head f) (fresh_order (at_of h.above h.below) f o) in
      in_order b (fresh_head f') (fresh_order (at_of h.above lt1) f' first)
  in_order (b_loop {g = g} {g1 = g1} {at = at} {ps = ps} a) h o =
      let f = new_facts g at h.above h.below in
      let fa = frame a (fresh_head f) in
      let n = f.len in
      let lt = h.below in
      let edge : HasEdge g1 at (next_number g) = subst (λ r. Has r.next (next_number g)) (sym (fa.same at (omega arith) (omega arith))) (f.new at (inl refl)) in
      edged_order at h.below edge (looped_facts (heads Normal ps) g1 (next_number g) (of_heads Normal fa.waiting)) (in_order a (fresh_head f) (fresh_order (at_of h.above h.below) f o))
  in_order {at = at} (b_finally a b) h o = copies_order b _ (frame a h).waiting (in_order a h o)
  in_order (b_never {b = b} {g1 = g1} a) h o =
      let f = fresh_facts g1 [] false (λ x m. absurd m) in
      let n = f.len in
      let s = said_facts (labels_of b) (unreachable g1) (next_number g1) (is_of (omega arith) (omega arith)) in
      labels_order (unreachable g1) _ (next_number g1) (ap (λ r. r.next) s.here) s.rest (fresh_order (λ x m. absurd m) f (in_order a h o))
  in_order (b_recode a) h o = in_order a h o
  in_order (b_same a to from) h o = in_order a h o

  copies_order : {k : Control} {ps : List Pending} {g : List Segment} {g' : List Segment} {qs : List Pending} → Copied k ps g g' qs → (v : Bool) → Waiting g ps v → AreInOrder g → AreInOrder g'
  copies_order c_done v w o = o
  copies_order {g = g} (c_more {p = p} {ps = ps} b c) v w o =
      let i = mid_join g p.completion (p ∷ ps) v p.head (heads p.completion ps) w (heads_first p ps) in
      let of = of_heads p.completion w in
      let hs = heads p.completion (p ∷ ps) in
      let f = fresh_facts g hs (some_reachable g hs) of in
      copies_order c v (wait_on w i (frame b i.head)) (in_order b i.head (fresh_order of f o))

first_order : AreInOrder (fresh true ∷ [])
first_order zero to m = absurd m
first_order (suc zero) to m = absurd m
first_order (suc (suc from)) to m = absurd m

-- the whole graph, with its ends
pub graph_order : {k : Control} (g0 g1 e1 e2 e3 : Parts) {ps : List Pending} {at : ℕ} {n q t : List ℕ} → g0 ≡ record { segments = fresh true ∷ []; returned = []; thrown = [] } → Head g0.segments at → Makes k g0 at g1 ps
    → e1 ≡ record g1 { returned = n } → e2 ≡ record e1 { returned = q } → e3 ≡ record e2 { thrown = t } → AreInOrder e3.segments
graph_order g0 g1 e1 e2 e3 begin h m w1 w2 w3 =
    let same : e3.segments ≡ g1.segments = ap (λ w. w.segments) w3 ∙ ap (λ w. w.segments) w2 ∙ ap (λ w. w.segments) w1 in
    subst AreInOrder (sym same) (in_order m.built h (subst AreInOrder (sym (ap (λ w. w.segments) begin)) first_order))
