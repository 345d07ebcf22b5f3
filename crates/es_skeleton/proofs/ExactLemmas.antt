-- The graph of a skeleton is exact.
use Rattle.std.proofs.Common.{◌≡◌, ℕ, zero, suc, ◌≤◌, List, [], ◌∷◌, ◌++◌, ◌⊎◌, inl, inr, true, refl, sym, ◌∙◌, ap, subst, arith, append_assoc, append-nil}
use Rattle.std.proofs.lemmas.Bool.{cases_eq}
use Rattle.es_fork.specs.declared.segment.Segment.{Segment}
use Rattle.es_fork.specs.declared.segment.Label.{Label}
use Rattle.es_fork.specs.Graphs.{Parts, segment_at, initial, Has, IsOf}
use Rattle.es_fork.specs.Walks.{Walk, IsGraph}
use Rattle.es_fork.specs.Changes.{fresh}
use Rattle.es_skeleton.specs.declared.completion.Completion.{Completion}
use Rattle.es_skeleton.specs.declared.completion.Completion.TheVariants.{Normal, Return, Throw}
use Rattle.es_skeleton.specs.declared.pending.Pending.{Pending}
use Rattle.es_skeleton.specs.Controls.{Control}
use Rattle.es_skeleton.specs.Runs as r
use Rattle.es_skeleton.specs.Pendings.{Waits, heads}
use Rattle.es_skeleton.specs.Steps.{next_number}
use Rattle.es_skeleton.specs.Built.{Head, Built, Makes}
use Rattle.es_skeleton.specs.Exact.{Exact, Says}
use Rattle.es_skeleton.proofs.PendingsLemmas.{heads-waits, waits-heads}
use Rattle.es_skeleton.proofs.StepsLemmas.{has_left, has_right, has_append}
use Rattle.es_skeleton.proofs.RunsAfter.{Run, Part}
use Rattle.es_skeleton.proofs.Enters.{Enters, start, along, enters_walk, walk_enters}
use Rattle.es_skeleton.proofs.Words.{added, from_added, added_cut, from_cut}
use Rattle.es_skeleton.proofs.Complete.{ext_refl, Completes, complete}
use Rattle.es_skeleton.proofs.Sound.{Lang, Closed, Cur, Sound, sound}
use Rattle.es_skeleton.proofs.Prefixes.{part_cut}
use Rattle.es_skeleton.proofs.Labels.{Shown, only_says, all_says}

abbrev pub first : List Segment
first = fresh true ∷ []

pub first_head : Head first 1
first_head = record { above = omega arith; below = omega arith; open_at = refl }

no_edge : (s y : ℕ) → Has (segment_at first s).next y → ⊥
no_edge zero y m = m
no_edge (suc zero) y m = m
no_edge (suc (suc s)) y m = m

-- before anything is built, control is at the first segment, with no trace
abbrev Begin : Lang
Begin s t = (s ≡ 1) × (t ≡ [])

begin_closed : Closed first Begin
begin_closed = record {
  within = λ s t i. let q = i.0 in omega arith;
  over = λ s y t m i. absurd (no_edge s y m);
}

begin_cur : (t : List Label) → Cur first Begin 1 t → t ≡ []
begin_cur t x = x.2 ∙ append-nil x.0 ∙ x.1.1

-- what control enters is in each closed assignment
entered : {g : List Segment} {In : Lang} → Closed g In → In 1 [] → {s : ℕ} {t : List Label} → Enters g s t → In s t
entered {g} k z start = z
entered {g} k z (along {s} {t} {s' = y} x m) = k.over s y t m (entered k z x)

from_one : {g : List Segment} → ((x y : ℕ) → Has (segment_at g x).next y → IsOf g y) → {s : ℕ} {t : List Label} → Enters g s t → 1 ≤ s
from_one of start = omega arith
from_one of (along {s = s} {s' = y} x m) = (of s y m).from_one

module _ (k : Control) (G : List Segment) (ps : List Pending) (b : Built k first 1 G ps) where
  private_sound : Sound k first 1 G ps Begin
  private_sound = sound b first_head Begin begin_closed

  private_complete : Completes G k first 1 G ps
  private_complete = complete b first_head G (ext_refl G)

  at_first : (t0 : List Label) × Enters G 1 t0 × ([] ≡ t0 ++ (segment_at first 1).labels)
  at_first = ([], start, refl)

  walk_cur : (s : ℕ) (w : List Label) → Walk G s w → Cur G private_sound.In' s w
  walk_cur s w x =
      let e = walk_enters x in
      (e.0, entered private_sound.closed (private_sound.grows.more 1 [] (refl, refl)) e.1, e.2)

  pub ends_run : (c : Completion) (s : ℕ) (w : List Label) → Waits ps c s → Walk G s w → r.Run k w c
  ends_run c s w z x =
      let q = private_sound.ends c s w z (walk_cur s w x) in
      let a = added (subst (λ t. Run k t w c) (begin_cur q.0 q.1) q.2) in
      subst (λ v. r.Run k v c) (sym a.1) a.2

  pub run_ends : (c : Completion) (w : List Label) → r.Run k w c → (s : ℕ) × Waits ps c s × Walk G s w
  run_ends c w run =
      let z = private_complete.runs [] w c at_first (from_added run []) in
      (z.0, z.1, subst (Walk G z.0) (sym z.2.2) (enters_walk z.2.1))

  pub walk_part : ((x y : ℕ) → Has (segment_at G x).next y → IsOf G y) → (s : ℕ) (t x : List Label) → Walk G s (t ++ x) → r.Cut k t
  walk_part of s t x z =
      let e = from_one of (walk_enters z).1 in
      let p : (s ≡ 1) ⊎ (next_number first ≤ s) = elim (cases_eq s 1) [ inl q ↦ inl q | inr n ↦ inr (omega arith) ] in
      let q = private_sound.parts s (t ++ x) p (walk_cur s (t ++ x) z) in
      let a = added_cut (part_cut (subst (λ i. Part k i (t ++ x)) (begin_cur q.0 q.1) q.2) t (t, refl) (x, refl)) in
      subst (r.Cut k) (sym a.1) a.2

  pub part_walk : (t : List Label) → r.Cut k t → (s : ℕ) × (x : List Label) × Walk G s (t ++ x)
  part_walk t p =
      let q = private_complete.parts [] t at_first (from_cut p []) in
      let a = q.3 in
      let e : a.0 ++ (segment_at G q.0).labels ≡ t ++ q.2 = ap (λ l. a.0 ++ l) q.4 ∙ sym (append_assoc a.0 q.1 q.2) ∙ ap (λ l. l ++ q.2) (sym a.2) in
      (q.0, q.2, subst (Walk G q.0) e (enters_walk a.1))

  pub shown_says : (l : Label) → Shown G l → Says k l
  shown_says l x = elim (only_says b first_head l x) [ inl y ↦ absurd (no_label y.0 y.1) | inr s ↦ s ]
    where
      no_label : (s : ℕ) → Has (segment_at first s).labels l → ⊥
      no_label zero m = m
      no_label (suc zero) m = m
      no_label (suc (suc s)) m = m

  pub says_shown : (l : Label) → Says k l → Shown G l
  says_shown l y = all_says b first_head l y

base : (k : Control) (graph : Parts) (ps : List Pending) → Built k first 1 graph.segments ps → IsGraph graph
    → graph.returned ≡ heads Normal ps ++ heads Return ps → graph.thrown ≡ heads Throw ps → Exact k graph
base k graph ps b ok ret thr = record {
  returns = λ w. (
    λ x. elim (has_append (heads Normal ps) (heads Return ps) x.0 (subst (λ l. Has l x.0) ret x.1)) [
      | inl y ↦ inl (ends_run k graph.segments ps b Normal x.0 w (heads-waits Normal ps x.0 y) x.2)
      | inr y ↦ inr (ends_run k graph.segments ps b Return x.0 w (heads-waits Return ps x.0 y) x.2)
    ],
    λ y. elim y [
      | inl run ↦ let z = run_ends k graph.segments ps b Normal w run in (z.0, subst (λ l. Has l z.0) (sym ret) (has_left (heads Normal ps) (heads Return ps) z.0 (waits-heads Normal ps z.0 z.1)), z.2)
      | inr run ↦ let z = run_ends k graph.segments ps b Return w run in (z.0, subst (λ l. Has l z.0) (sym ret) (has_right (heads Normal ps) (heads Return ps) z.0 (waits-heads Return ps z.0 z.1)), z.2)
    ],
  );
  throws = λ w. (
    λ x. ends_run k graph.segments ps b Throw x.0 w (heads-waits Throw ps x.0 (subst (λ l. Has l x.0) thr x.1)) x.2,
    λ run. let z = run_ends k graph.segments ps b Throw w run in (z.0, subst (λ l. Has l z.0) (sym thr) (waits-heads Throw ps z.0 z.1), z.2),
  );
  prefixes = λ t. (λ x. walk_part k graph.segments ps b ok.next x.0 t x.1 x.2, part_walk k graph.segments ps b t);
  labels = λ l. (shown_says k graph.segments ps b l, says_shown k graph.segments ps b l);
  reachable = ok.reachable;
  next = ok.next;
  returned = ok.returned;
  thrown = ok.thrown;
}

pub begin_head : (g0 : Parts) → g0 ≡ record { segments = fresh true ∷ []; returned = []; thrown = [] } → Head g0.segments initial
begin_head g0 e = subst (λ s. Head s 1) (sym (ap (λ w. w.segments) e)) first_head

-- the three ends, one after another
pub ends_exact : (k : Control) (g0 g1 e1 e2 e3 : Parts) (ps all0 all1 all2 : List Pending) (n q t : List ℕ) (at : ℕ)
    → g0 ≡ record { segments = fresh true ∷ []; returned = []; thrown = [] } → at ≡ initial → Makes k g0 at g1 ps
    → all0 ≡ ps → all1 ≡ ps → all2 ≡ ps → n ≡ heads Normal all0 → q ≡ heads Return all1 → t ≡ heads Throw all2
    → e1 ≡ record g1 { returned = g1.returned ++ n } → e2 ≡ record e1 { returned = e1.returned ++ q } → e3 ≡ record e2 { thrown = e2.thrown ++ t }
    → IsGraph e3 → Exact k e3
ends_exact k g0 g1 e1 e2 e3 ps all0 all1 all2 n q t at begin at-is m q0 q1 q2 n-is r-is t-is w1 w2 w3 ok =
    let b : g1.returned ≡ [] = m.returned ∙ ap (λ w. w.returned) begin in
    let c : g1.thrown ≡ [] = m.thrown ∙ ap (λ w. w.thrown) begin in
    let n-at : n ≡ heads Normal ps = n-is ∙ ap (heads Normal) q0 in
    let r-at : q ≡ heads Return ps = r-is ∙ ap (heads Return) q1 in
    let t-at : t ≡ heads Throw ps = t-is ∙ ap (heads Throw) q2 in
    let ret : e3.returned ≡ heads Normal ps ++ heads Return ps =
    ap (λ w. w.returned) w3 ∙ ap (λ w. w.returned) w2 ∙ ap (λ l. l ++ q) (ap (λ w. w.returned) w1 ∙ ap (λ l. l ++ n) b) ∙ ap (λ l. n ++ l) r-at ∙ ap (λ l. l ++ heads Return ps) n-at in
    let thr : e3.thrown ≡ heads Throw ps = ap (λ w. w.thrown) w3 ∙ ap (λ l. l ++ t) (ap (λ w. w.thrown) w2 ∙ ap (λ w. w.thrown) w1 ∙ c) ∙ t-at in
    let same : e3.segments ≡ g1.segments = ap (λ w. w.segments) w3 ∙ ap (λ w. w.segments) w2 ∙ ap (λ w. w.segments) w1 in
    base k e3 ps
    (subst (λ s. Built k first 1 s ps) (sym same) (subst (λ j. Built k first j g1.segments ps) at-is (subst (λ s. Built k s at g1.segments ps) (ap (λ w. w.segments) begin) m.built)))
    ok ret thr
