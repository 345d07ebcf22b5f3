-- Each walk of the graph that was built is a run of the skeleton.
use Rattle.std.proofs.Common.{◌≡◌, ℕ, suc, ◌<◌, ◌≤◌, List, [], ◌∷◌, ◌++◌, ◌⊎◌, inl, inr, Bool, true, false, refl, sym, ◌∙◌, ap, subst, arith, append_assoc, append-nil}
use Rattle.std.proofs.lemmas.Bool.{cases_eq, cases_lt}
use Rattle.es_fork.specs.declared.segment.Segment.{Segment}
use Rattle.es_fork.specs.declared.segment.Label.{Label}
use Rattle.es_fork.specs.Graphs.{segment_at, Has, IsOf}
use Rattle.es_skeleton.specs.declared.completion.Completion.{Completion}
use Rattle.es_skeleton.specs.declared.completion.Completion.TheVariants.{Normal}
use Rattle.es_skeleton.specs.declared.pending.Pending.{Pending}
use Rattle.es_skeleton.specs.Controls.{Control, Emit, Exit, Catch, Choice, Loop, Finally}
use Rattle.es_skeleton.specs.Pendings.{Waits, heads, others, recoded}
use Rattle.es_skeleton.specs.Steps.{next_number, some_reachable, new_next, join, unreachable, GoesOn, joined, alone, never}
use Rattle.es_skeleton.specs.Built.{Head, Waiting, at_head, labels_of, Built, b_emit, b_exit, b_catch, b_dead, b_choice, b_loop, b_finally, b_never, b_same, b_recode, Copied, c_done, c_more}
use Rattle.es_skeleton.proofs.RunsAfter.{Run, emit, exit, caught, passed, left, right, again, leave, kept, replaced, Part, none, emitted, in_catch, after_catch, in_left, in_right, in_loop, after_turn, in_body, in_final}
use Rattle.es_skeleton.proofs.PendingsLemmas.{recoded-waits, waits_either, heads-waits, others-waits}
use Rattle.es_skeleton.proofs.StepsLemmas.{Labelled, labelled_facts, Edged, looped_facts, Fresh, fresh_facts, new_facts, edge_below, Apart, apart_facts, is_of}
use Rattle.es_skeleton.proofs.Frame.{mid_of, mid_never, Frame, Mid, CopyFrame, frame, copied, mid_join, others_wait, wait_on, heads_first, fresh_head, of_heads}
use Rattle.es_skeleton.proofs.Complete.{Outcome}

-- Each walk of the graph that was built is a run of the skeleton.

-- the traces with which control may come to each segment
abbrev pub Lang : Type 1
Lang = ℕ → List Label → Type 0

pub record Closed (g : List Segment) (In : Lang) : Type 0 where
  pub within : (s : ℕ) (t : List Label) → In s t → s < next_number g
  pub over : (s y : ℕ) (t : List Label) → Has (segment_at g s).next y → In s t → In y (t ++ (segment_at g s).labels)

-- the traces at the end of the labels of s
abbrev pub Cur : List Segment → Lang → ℕ → List Label → Type 0
Cur g In s u = (t : List Label) × In s t × (u ≡ t ++ (segment_at g s).labels)

-- the traces of In grow into those of In', and those of the segments of g stay
pub record Grows (g : List Segment) (In In' : Lang) : Type 0 where
  pub more : (s : ℕ) (t : List Label) → In s t → In' s t
  pub only : (s : ℕ) (t : List Label) → s < next_number g → In' s t → In s t

pub record Sound (k : Control) (g : List Segment) (at : ℕ) (g' : List Segment) (ps : List Pending) (In : Lang) : Type 1 where
  pub In' : Lang
  pub grows : Grows g In In'
  pub closed : Closed g' In'
  pub ends : (c : Completion) (h : ℕ) (u : List Label) → Waits ps c h → Cur g' In' h u → (t : List Label) × Cur g In at t × Run k t u c
  pub parts : (s : ℕ) (u : List Label) → (s ≡ at) ⊎ (next_number g ≤ s) → Cur g' In' s u → (t : List Label) × Cur g In at t × Part k t u

grows_refl : (g : List Segment) (In : Lang) → Grows g In In
grows_refl g In = record { more = λ s t i. i; only = λ s t lt i. i }

grows_trans : {a b : List Segment} {In In1 In2 : Lang} → next_number a ≤ next_number b → Grows a In In1 → Grows b In1 In2 → Grows a In In2
grows_trans le p q = record { more = λ s t i. q.more s t (p.more s t i); only = λ s t lt i. p.only s t lt (q.only s t (omega arith) i) }

-- back to an earlier graph, at a segment that it has
cur_back : (g g' : List Segment) {In In' : Lang} → Grows g In In' → (s : ℕ) (u : List Label) → s < next_number g → (segment_at g' s).labels ≡ (segment_at g s).labels → Cur g' In' s u → Cur g In s u
cur_back g g' w s u lt e x = (x.0, w.only s x.0 lt x.1, x.2 ∙ ap (λ l. x.0 ++ l) e)

-- a new segment, to which control comes with the traces Y
abbrev pub Add : List Segment → Lang → (List Label → Type 0) → Lang
Add g In Y s t = In s t ⊎ ((s ≡ next_number g) × Y t)

pub record New (g : List Segment) (In : Lang) (Y : List Label → Type 0) (m : List Segment) : Type 0 where
  pub grows : Grows g In (Add g In Y)
  pub closed : Closed m (Add g In Y)
  pub from : (u : List Label) → Cur m (Add g In Y) (next_number g) u → Y u

new_closed : {g : List Segment} {hs : List ℕ} {b : Bool} {m : List Segment} {In : Lang} (Y : List Label → Type 0) → Fresh g hs b m → ((h : ℕ) → Has hs h → IsOf g h) → Closed g In →
    ((h : ℕ) (t : List Label) → Has hs h → Cur g In h t → Y t) → New g In Y m
new_closed {g} {hs} {b} {m} {In} Y f below k all =
    let n = f.len in
    record {
      grows = record { more = λ s t i. inl i; only = λ s t lt i. elim i [ inl x ↦ x | inr y ↦ let q = y.0 in absurd (omega arith) ] };
      closed = record {
        within = λ s t i. elim i [ inl x ↦ let lt = k.within s t x in omega arith | inr y ↦ let q = y.0 in omega arith ];
        over = λ s y t e i. elim (f.only s y e) [
          | inl o ↦
              let lt = edge_below g s y o in
              elim i [ inl x ↦ inl (subst (λ l. In y (t ++ l)) (sym (f.labels s lt)) (k.over s y t o x)) | inr z ↦ let q = z.0 in absurd (omega arith) ]
          | inr o ↦
              let of = below s o.0 in
              let z = of.to_last in
              let lt : s < next_number g = omega arith in
              elim i [
                | inl x ↦ inr (o.1, subst (λ l. Y (t ++ l)) (sym (f.labels s lt)) (all s (t ++ (segment_at g s).labels) o.0 (t, x, refl)))
                | inr z ↦ let q = z.0 in absurd (omega arith)
              ]
        ];
      };
      from = λ u x. elim x.1 [
        | inl i ↦ let lt = k.within (next_number g) x.0 i in absurd (omega arith)
        | inr y ↦ subst Y (sym (x.2 ∙ ap (λ r. x.0 ++ r.labels) f.made ∙ append-nil x.0)) y.1
      ];
    }

-- how traces go on at `at` of m
pub record Passes (g : List Segment) (c : Completion) (ps : List Pending) (m : List Segment) (at : ℕ) (In : Lang) : Type 1 where
  pub In' : Lang
  pub grows : Grows g In In'
  pub closed : Closed m In'
  pub from : (u : List Label) → Cur m In' at u → (h : ℕ) × Waits ps c h × Cur g In h u
  pub last : (s : ℕ) → next_number g ≤ s → s < next_number m → s ≡ at

passes_fresh : (g : List Segment) (c : Completion) (ps : List Pending) (b : Bool) (m : List Segment) (In : Lang) → Fresh g (heads c ps) b m → ((h : ℕ) → Has (heads c ps) h → IsOf g h) → Closed g In → Passes g c ps m (next_number g) In
passes_fresh g c ps b m In f below k =
    let n = f.len in
    let Y : List Label → Type 0 = λ u. (h : ℕ) × Waits ps c h × Cur g In h u in
    let w = new_closed Y f below k (λ h t z x. (h, heads-waits c ps h z, x)) in
    record { In' = Add g In Y; grows = w.grows; closed = w.closed; from = w.from; last = λ s le lt. omega arith }

passes_join : {g : List Segment} {c : Completion} {ps : List Pending} {v : Bool} (In : Lang) → Waiting g ps v → Closed g In → Passes g c ps (join g (heads c ps)) (next_number g) In
passes_join {g} {c} {ps} In w k =
    let below = of_heads c w in
    passes_fresh g c ps _ _ In (fresh_facts g (heads c ps) (some_reachable g (heads c ps)) below) below k

passes_on : {g : List Segment} {c : Completion} {ps : List Pending} {h : ℕ} (In : Lang) → heads c ps ≡ h ∷ [] → Closed g In → Passes g c ps g h In
passes_on {g} {c} {ps} {h} In e k = record {
  In' = In;
  grows = grows_refl g In;
  closed = k;
  from = λ u x. (h, heads-waits c ps h (subst (λ l. Has l h) (sym e) (inl refl)), x);
  last = λ s le lt. absurd (omega arith);
}

passes_dead : (g : List Segment) (c : Completion) (ps : List Pending) (In : Lang) → heads c ps ≡ [] → Closed g In → Passes g c ps (unreachable g) (next_number g) In
passes_dead g c ps In e k =
    let f = fresh_facts g [] false (λ h m. absurd m) in
    let n = f.len in
    let w = new_closed {In = In} (λ u. ⊥) f (λ h m. absurd m) k (λ h t z x. absurd z) in
    record { In' = Add g In (λ u. ⊥); grows = w.grows; closed = w.closed; from = λ u x. absurd (w.from u x); last = λ s le lt. omega arith }

passes_of : {c : Completion} {ps : List Pending} {g m : List Segment} {h : ℕ} {v : Bool} (In : Lang) → GoesOn (heads c ps) g m h true → Waiting g ps v → Closed g In → Passes g c ps m h In
passes_of {c} {ps} In (joined e) w k = passes_join {c = c} {ps = ps} In w k
passes_of {c} {ps} In (alone e) w k = passes_on In e k

passes_never : {c : Completion} {ps : List Pending} {g m : List Segment} {h : ℕ} (In : Lang) → GoesOn (heads c ps) g m h false → Closed g In → Passes g c ps m h In
passes_never {c} {ps} {g} In (never e) k = passes_dead g c ps In e k

-- the heads that stay as they were
seq_end : {a b : Control} {g : List Segment} {at : ℕ} {g1 : List Segment} {c : Completion} {ps : List Pending} {m : List Segment} {k : ℕ} {v u0 : Bool} {g2 : List Segment} {qs : List Pending} {In : Lang} →
    Waiting g1 ps v → (sa : Sound a g at g1 ps In) → Mid g1 c ps m k u0 → (sm : Passes g1 c ps m k sa.In') → Frame m k g2 qs → (sb : Sound b m k g2 qs sm.In') →
    (d : Completion) (h : ℕ) (u : List Label) → Waits (others c ps) d h → Cur g2 sb.In' h u → (t : List Label) × Cur g In at t × Run (Catch c a b) t u d
seq_end {g1 = g1} {c = c} {ps = ps} {m = m} {g2 = g2} w sa i sm f sb d h u z x =
    let r = others-waits c ps d h z in
    let lt = w.below d h r.0 in
    let l = i.grows in
    let y = cur_back g1 g2 (grows_trans l sm.grows sb.grows) h u lt (ap (λ s. s.labels) (others_wait w i f d h r.0 r.1).1) x in
    let q = sa.ends d h u r.0 y in
    (q.0, q.1, passed q.2 r.1)

seq_end2 : {a b : Control} {g : List Segment} {at : ℕ} {g1 : List Segment} {c : Completion} {ps : List Pending} {m : List Segment} {k : ℕ} {g2 : List Segment} {qs : List Pending} {In : Lang} →
    (sa : Sound a g at g1 ps In) → (sm : Passes g1 c ps m k sa.In') → (sb : Sound b m k g2 qs sm.In') →
    (d : Completion) (h : ℕ) (u : List Label) → Waits qs d h → Cur g2 sb.In' h u → (t : List Label) × Cur g In at t × Run (Catch c a b) t u d
seq_end2 {c = c} sa sm sb d h u z x =
    let q = sb.ends d h u z x in
    let y = sm.from q.0 q.1 in
    let r = sa.ends c y.0 q.0 y.1 y.2 in
    (r.0, r.1, caught r.2 q.2)

-- the place where a part of a sequence lies
seq_part : {a b : Control} {g : List Segment} {at : ℕ} {g1 : List Segment} {c : Completion} {ps : List Pending} {m : List Segment} {k : ℕ} {u0 : Bool} {g2 : List Segment} {qs : List Pending} {In : Lang} →
    (sa : Sound a g at g1 ps In) → Mid g1 c ps m k u0 → (sm : Passes g1 c ps m k sa.In') → Frame m k g2 qs → (sb : Sound b m k g2 qs sm.In') →
    (s : ℕ) (u : List Label) → (s ≡ at) ⊎ (next_number g ≤ s) → Cur g2 sb.In' s u → (t : List Label) × Cur g In at t × Part (Catch c a b) t u
seq_part {a} {b} {g} {at} {g1} {c} {ps} {m} {k} {g2 = g2} {In = In} sa i sm f sb s u p x = elim (cases_eq s k) [
  | inl q ↦ second (inl q)
  | inr nk ↦ elim (cases_lt s (next_number m)) [
    | inr far ↦ second (inr far)
    | inl inside ↦
        let l = i.grows in
        let lt1 : s < next_number g1 = elim (cases_lt s (next_number g1)) [ inl y ↦ y | inr z ↦ absurd (nk (sm.last s z inside)) ] in
        let y1 = cur_back m g2 sb.grows s u inside (ap (λ r. r.labels) (f.same s inside nk)) x in
        let y2 = cur_back g1 m sm.grows s u lt1 (i.labels s lt1) y1 in
        let z = sa.parts s u p y2 in
        (z.0, z.1, in_catch z.2)
  ]
]
  where
    second : (s ≡ k) ⊎ (next_number m ≤ s) → (t : List Label) × Cur g In at t × Part (Catch c a b) t u
    second q =
        let z = sb.parts s u q x in
        let y = sm.from z.0 z.1 in
        let r = sa.ends c y.0 z.0 y.1 y.2 in
        (r.0, r.1, after_catch r.2 z.2)

seq_sound : {a b : Control} {g : List Segment} {at : ℕ} {g1 : List Segment} {c : Completion} {ps : List Pending} {m : List Segment} {k : ℕ} {v u0 : Bool} {g2 : List Segment} {qs : List Pending} {In : Lang} →
    next_number g ≤ next_number g1 → Waiting g1 ps v → (sa : Sound a g at g1 ps In) → Mid g1 c ps m k u0 → (sm : Passes g1 c ps m k sa.In') → Frame m k g2 qs → Sound b m k g2 qs sm.In' →
    Sound (Catch c a b) g at g2 (others c ps ++ qs) In
seq_sound {c = c} {ps = ps} {qs = qs} le w sa i sm f sb =
    let l = i.grows in
    record {
      In' = sb.In';
      grows = grows_trans (omega arith) (grows_trans le sa.grows sm.grows) sb.grows;
      closed = sb.closed;
      ends = λ d h u z x. elim (waits_either (others c ps) qs d h z) [ inl y ↦ seq_end w sa i sm f sb d h u y x | inr y ↦ seq_end2 sa sm sb d h u y x ];
      parts = seq_part sa i sm f sb;
    }

dead_sound : {a b : Control} {g : List Segment} {at : ℕ} {g1 : List Segment} {c : Completion} {ps : List Pending} {m : List Segment} {k : ℕ} {v u0 : Bool} {g2 : List Segment} {qs : List Pending} {In : Lang} →
    next_number g ≤ next_number g1 → Waiting g1 ps v → (sa : Sound a g at g1 ps In) → Mid g1 c ps m k u0 → (sm : Passes g1 c ps m k sa.In') → Frame m k g2 qs → Sound b m k g2 qs sm.In' →
    Sound (Catch c a b) g at g2 (others c ps) In
dead_sound {c = c} {ps = ps} {qs = qs} le w sa i sm f sb =
    let l = i.grows in
    record {
      In' = sb.In';
      grows = grows_trans (omega arith) (grows_trans le sa.grows sm.grows) sb.grows;
      closed = sb.closed;
      ends = λ d h u z x. seq_end w sa i sm f sb d h u z x;
      parts = seq_part sa i sm f sb;
    }

-- at the end of the labels of the head where the part began, nothing has run yet
at_start : {k : Control} {g : List Segment} (g' : List Segment) {at : ℕ} {In In' : Lang} → Grows g In In' → at < next_number g → (segment_at g' at).labels ≡ (segment_at g at).labels →
    (s : ℕ) (u : List Label) → s ≡ at → Cur g' In' s u → (t : List Label) × Cur g In at t × Part k t u
at_start {g = g} g' {at = at} {In' = In'} w lt e s u q x = (u, cur_back g g' w at u lt e (subst (λ n. Cur g' In' n u) q x), none)

choice_sound : {a b : Control} {g : List Segment} {at : ℕ} {g1 : List Segment} {ps : List Pending} {g2 : List Segment} {qs : List Pending} {In : Lang} →
    1 ≤ at → at < next_number g → Frame (new_next g at) (next_number g) g1 ps → Frame (new_next g1 at) (next_number g1) g2 qs →
    (na : New g In (λ u. Cur g In at u) (new_next g at)) → (sa : Sound a (new_next g at) (next_number g) g1 ps (Add g In (λ u. Cur g In at u))) →
    (nb : New g1 sa.In' (λ u. Cur g1 sa.In' at u) (new_next g1 at)) → Sound b (new_next g1 at) (next_number g1) g2 qs (Add g1 sa.In' (λ u. Cur g1 sa.In' at u)) →
    Sound (Choice a b) g at g2 (ps ++ qs) In
choice_sound {a} {b} {g} {at} {g1} {ps} {g2} {qs} {In} ab lt fa fb na sa nb sb =
    let f = new_facts g at ab lt in
    let n = f.len in
    let la = fa.grows in
    let lt1 : at < next_number g1 = omega arith in
    let f' = new_facts g1 at ab lt1 in
    let n' = f'.len in
    let lb = fb.grows in
    let same1 : (segment_at g1 at).labels ≡ (segment_at g at).labels = ap (λ r. r.labels) (fa.same at (omega arith) (omega arith)) ∙ f.labels at lt in
    let same2 : (s : ℕ) → s < next_number g1 → (segment_at g2 s).labels ≡ (segment_at g1 s).labels = λ s l. ap (λ r. r.labels) (fb.same s (omega arith) (omega arith)) ∙ f'.labels s l in
    let up : Grows g1 sa.In' sb.In' = grows_trans (omega arith) nb.grows sb.grows in
    let first : Grows g In sa.In' = grows_trans (omega arith) na.grows sa.grows in
    let back : (s : ℕ) (u : List Label) → s < next_number g1 → Cur g2 sb.In' s u → Cur g1 sa.In' s u = λ s u l x. cur_back g1 g2 up s u l (same2 s l) x in
    record {
      In' = sb.In';
      grows = grows_trans (omega arith) first up;
      closed = sb.closed;
      ends = λ d h u z x. elim (waits_either ps qs d h z) [
        | inl y ↦
            let q = sa.ends d h u y (back h u (fa.waiting.below d h y) x) in
            (q.0, na.from q.0 q.1, left q.2)
        | inr y ↦
            let q = sb.ends d h u y x in
            (q.0, cur_back g g1 first at q.0 lt same1 (nb.from q.0 q.1), right q.2)
      ];
      parts = λ s u p x. elim p [
        | inl e ↦ at_start g2 (grows_trans (omega arith) first up) lt (same2 at lt1 ∙ same1) s u e x
        | inr le ↦ elim (cases_lt s (next_number g1)) [
          | inl l ↦
              let q = sa.parts s u (elim (cases_eq s (next_number g)) [ inl e ↦ inl e | inr ne ↦ inr (omega arith) ]) (back s u l x) in
              (q.0, na.from q.0 q.1, in_left q.2)
          | inr far ↦
              let q = sb.parts s u (elim (cases_eq s (next_number g1)) [ inl e ↦ inl e | inr ne ↦ inr (omega arith) ]) x in
              (q.0, cur_back g g1 first at q.0 lt same1 (nb.from q.0 q.1), in_right q.2)
        ]
      ];
    }

-- some whole turns of a loop
data Turns (k : Control) : List Label → List Label → Type 0 where
  still : {t : List Label} → Turns k t t
  turn : {t u v : List Label} → Turns k t u → Run k u v Normal → Turns k t v

turns_run : {k : Control} {t u v : List Label} {d : Completion} → Turns k t u → Run (Loop k) u v d → Run (Loop k) t v d
turns_run still r = r
turns_run (turn q x) r = turns_run q (again x r)

turns_part : {k : Control} {t u v : List Label} → Turns k t u → Part (Loop k) u v → Part (Loop k) t v
turns_part still r = r
turns_part (turn q x) r = turns_part q (after_turn x r)

abbrev Turned : List Segment → Lang → ℕ → Control → List Label → Type 0
Turned g In at a u = (t : List Label) × Cur g In at t × Turns a t u

loop_sound : {a : Control} {g : List Segment} {at : ℕ} {g1 : List Segment} {ps : List Pending} {g2 : List Segment} {In : Lang} →
    1 ≤ at → at < next_number g → Frame (new_next g at) (next_number g) g1 ps → Edged g1 (heads Normal ps) (next_number g) g2 →
    (na : New g In (Turned g In at a) (new_next g at)) → Sound a (new_next g at) (next_number g) g1 ps (Add g In (Turned g In at a)) →
    Sound (Loop a) g at g2 (others Normal ps) In
loop_sound {a} {g} {at} {g1} {ps} {g2} {In} ab lt fa fe na sa =
    let f = new_facts g at ab lt in
    let n = f.len in
    let la = fa.grows in
    let n2 = fe.len in
    let w : Grows g In sa.In' = grows_trans (omega arith) na.grows sa.grows in
    let back : (s : ℕ) (u : List Label) → Cur g2 sa.In' s u → Cur g1 sa.In' s u = λ s u x. (x.0, x.1, x.2 ∙ ap (λ l. x.0 ++ l) (fe.labels s)) in
    record {
      In' = sa.In';
      grows = w;
      closed = record {
        within = λ s t i. let l = sa.closed.within s t i in omega arith;
        over = λ s y t e i. elim (fe.only s y e) [
          | inl o ↦ subst (λ l. sa.In' y (t ++ l)) (sym (fe.labels s)) (sa.closed.over s y t o i)
          | inr o ↦
              let q = sa.ends Normal s (t ++ (segment_at g1 s).labels) (heads-waits Normal ps s o.0) (t, i, refl) in
              let r = na.from q.0 q.1 in
              subst (λ j. sa.In' j (t ++ (segment_at g2 s).labels)) (sym o.1)
              (subst (λ l. sa.In' (next_number g) (t ++ l)) (sym (fe.labels s))
              (sa.grows.more (next_number g) (t ++ (segment_at g1 s).labels) (inr (refl, (r.0, r.1, turn r.2 q.2)))))
        ];
      };
      ends = λ d h u z x.
          let r = others-waits Normal ps d h z in
          let q = sa.ends d h u r.0 (back h u x) in
          let y = na.from q.0 q.1 in
          (y.0, y.1, turns_run y.2 (leave q.2 r.1));
      parts = λ s u p x. elim p [
        | inl e ↦ at_start g2 w lt (fe.labels at ∙ ap (λ r. r.labels) (fa.same at (omega arith) (omega arith)) ∙ f.labels at lt) s u e x
        | inr le ↦
            let q = sa.parts s u (elim (cases_eq s (next_number g)) [ inl e ↦ inl e | inr ne ↦ inr (omega arith) ]) (back s u x) in
            let y = na.from q.0 q.1 in
            (y.0, y.1, turns_part {t = y.0} y.2 (in_loop q.2))
      ];
    }

pub record SoundCopies (b : Control) (ps : List Pending) (g g' : List Segment) (qs : List Pending) (In : Lang) : Type 1 where
  pub In' : Lang
  pub grows : Grows g In In'
  pub closed : Closed g' In'
  pub ends : (e : Completion) (h : ℕ) (u : List Label) → Waits qs e h → Cur g' In' h u →
      (c : Completion) × (k : ℕ) × (t : List Label) × (d : Completion) × Waits ps c k × Cur g In k t × Run b t u d × Outcome c d e
  pub parts : (s : ℕ) (u : List Label) → next_number g ≤ s → Cur g' In' s u → (c : Completion) × (k : ℕ) × (t : List Label) × Waits ps c k × Cur g In k t × Part b t u

copies_sound : {b : Control} {g : List Segment} {c : Completion} {ps : List Pending} {m : List Segment} {v : Bool} {g1 : List Segment} {qs : List Pending} {g2 : List Segment} {rs : List Pending} {In : Lang} →
    next_number m ≡ suc (next_number g) → Waiting g ps v → Mid g c ps m (next_number g) v → (sm : Passes g c ps m (next_number g) In) → Frame m (next_number g) g1 qs → (sb : Sound b m (next_number g) g1 qs sm.In') →
    CopyFrame g1 (others c ps) g2 rs v → SoundCopies b (others c ps) g1 g2 rs sb.In' → SoundCopies b ps g g2 (recoded Normal c qs ++ rs) In
copies_sound {b} {g} {c} {ps} {m} {v} {g1} {qs} {g2} {rs} {In} n w i sm f sb k sc =
    let l2 = f.grows in
    let up : Grows g In sb.In' = grows_trans (omega arith) sm.grows sb.grows in
    let here : (s : ℕ) (u : List Label) → s < next_number g1 → Cur g2 sc.In' s u → Cur g1 sb.In' s u = λ s u lt x. cur_back g1 g2 sc.grows s u lt (k.labels s lt) x in
    let down : (d : Completion) (h : ℕ) (u : List Label) → Waits (others c ps) d h → Cur g1 sb.In' h u → Waits ps d h × Cur g In h u = λ d h u z x.
    let r = others-waits c ps d h z in
    (r.0, cur_back g g1 up h u (w.below d h r.0) (ap (λ s. s.labels) (others_wait w i f d h r.0 r.1).1) x) in
    record {
      In' = sc.In';
      grows = grows_trans (omega arith) up sc.grows;
      closed = sc.closed;
      ends = λ e h u z x. elim (waits_either (recoded Normal c qs) rs e h z) [
        | inl y ↦ elim (recoded-waits Normal c qs e h y) [
          | inl o ↦
              let q = sb.ends Normal h u o.0 (here h u (f.waiting.below Normal h o.0) x) in
              let r = sm.from q.0 q.1 in
              (c, r.0, q.0, Normal, r.1, r.2, q.2, inl (refl, o.1))
          | inr o ↦
              let q = sb.ends e h u o.0 (here h u (f.waiting.below e h o.0) x) in
              let r = sm.from q.0 q.1 in
              (c, r.0, q.0, e, r.1, r.2, q.2, inr (o.1, refl))
        ]
        | inr y ↦
            let q = sc.ends e h u y x in
            let r = down q.0 q.1 q.2 q.4 q.5 in
            (q.0, q.1, q.2, q.3, r.0, r.1, q.6, q.7)
      ];
      parts = λ s u le x. elim (cases_lt s (next_number g1)) [
        | inr far ↦
            let q = sc.parts s u far x in
            let r = down q.0 q.1 q.2 q.3 q.4 in
            (q.0, q.1, q.2, r.0, r.1, q.5)
        | inl lt ↦
            let q = sb.parts s u (elim (cases_eq s (next_number g)) [ inl e ↦ inl e | inr ne ↦ inr (omega arith) ]) (here s u lt x) in
            let r = sm.from q.0 q.1 in
            (c, r.0, q.0, r.1, r.2, q.2)
      ];
    }

pub finally_end : {a b : Control} {t u v : List Label} {c d : Completion} (e : Completion) → Run a t u c → Run b u v d → Outcome c d e → Run (Finally a b) t v e
finally_end {a} {b} {t} {u} {v} e ra rb (inl o) = subst (λ n. Run (Finally a b) t v n) (sym o.1) (kept ra (subst (λ n. Run b u v n) o.0 rb))
finally_end {a} {b} {t} {u} {v} e ra rb (inr o) = subst (λ n. Run (Finally a b) t v n) (sym o.1) (replaced ra rb o.0)

finally_sound : {a b : Control} {g : List Segment} {at : ℕ} {g1 : List Segment} {ps : List Pending} {g2 : List Segment} {qs : List Pending} {v : Bool} {In : Lang} →
    at < next_number g → Frame g at g1 ps → (sa : Sound a g at g1 ps In) → CopyFrame g1 ps g2 qs v → SoundCopies b ps g1 g2 qs sa.In' → Sound (Finally a b) g at g2 qs In
finally_sound {g1 = g1} {g2 = g2} lt f sa k sc =
    let l = f.grows in
    record {
      In' = sc.In';
      grows = grows_trans l sa.grows sc.grows;
      closed = sc.closed;
      ends = λ e h u z x.
          let q = sc.ends e h u z x in
          let r = sa.ends q.0 q.1 q.2 q.4 q.5 in
          (r.0, r.1, finally_end e r.2 q.6 q.7);
      parts = λ s u p x. elim (cases_lt s (next_number g1)) [
        | inr far ↦
            let q = sc.parts s u far x in
            let r = sa.ends q.0 q.1 q.2 q.3 q.4 in
            (r.0, r.1, in_final r.2 q.5)
        | inl lt1 ↦
            let q = sa.parts s u p (cur_back g1 g2 sc.grows s u lt1 (k.labels s lt1) x) in
            (q.0, q.1, in_body q.2)
      ];
    }

emit_sound : {l : Label} {g : List Segment} {at : ℕ} {g' : List Segment} {In : Lang} → Head g at → Labelled g at l g' → Closed g In → Sound (Emit l) g at g' (at_head Normal at ∷ []) In
emit_sound {l} {g} {at} {g'} {In} h f k =
    let n = f.len in
    let run : (u : List Label) → Cur g' In at u → (t : List Label) × Cur g In at t × (u ≡ t ++ l ∷ []) = λ u x.
    (x.0 ++ (segment_at g at).labels, (x.0, x.1, refl), x.2 ∙ ap (λ r. x.0 ++ r.labels) f.here ∙ sym (append_assoc x.0 (segment_at g at).labels (l ∷ []))) in
    record {
      In' = In;
      grows = grows_refl g In;
      closed = record {
        within = λ s t i. let lt = k.within s t i in omega arith;
        over = λ s y t e i. elim (cases_eq s at) [
          | inl q ↦ absurd (subst (λ r. Has r y) (ap (λ r. r.next) f.here ∙ h.open_at) (subst (λ j. Has (segment_at g' j).next y) q e))
          | inr ne ↦ subst (λ r. In y (t ++ r.labels)) (sym (f.rest s ne)) (k.over s y t (subst (λ r. Has r.next y) (f.rest s ne) e) i)
        ];
      };
      ends = λ c s u z x. elim z [
        | inl o ↦
            let r = run u (subst (λ j. Cur g' In j u) (sym o.1) x) in
            (r.0, r.1, subst (λ d. Run (Emit l) r.0 u d) o.0 (subst (λ y. Run (Emit l) r.0 y Normal) (sym r.2) emit))
        | inr o ↦ absurd o
      ];
      parts = λ s u p x. elim p [
        | inl q ↦ let r = run u (subst (λ j. Cur g' In j u) q x) in (r.0, r.1, subst (λ y. Part (Emit l) r.0 y) (sym r.2) emitted)
        | inr le ↦ let lt = k.within s x.0 x.1 in absurd (omega arith)
      ];
    }

exit_sound : {c : Completion} {g : List Segment} {at : ℕ} {In : Lang} → Closed g In → Sound (Exit c) g at g (at_head c at ∷ []) In
exit_sound {c} {g} {at} {In} k = record {
  In' = In;
  grows = grows_refl g In;
  closed = k;
  ends = λ d s u z x. elim z [ inl o ↦ (u, subst (λ j. Cur g In j u) (sym o.1) x, subst (λ e. Run (Exit c) u u e) o.0 exit) | inr o ↦ absurd o ];
  parts = λ s u p x. elim p [ inl q ↦ (u, subst (λ j. Cur g In j u) q x, none) | inr le ↦ let lt = k.within s x.0 x.1 in absurd (omega arith) ];
}

never_sound : {a b : Control} {g : List Segment} {at : ℕ} {g1 : List Segment} {ls : List Label} {g2 : List Segment} {In : Lang} →
    Sound a g at g1 [] In → Apart g1 ls g2 → Sound (Finally a b) g at g2 [] In
never_sound {g1 = g1} {g2 = g2} sa f =
    let n = f.len in
    record {
      In' = sa.In';
      grows = sa.grows;
      closed = record {
        within = λ s t i. let lt = sa.closed.within s t i in omega arith;
        over = λ s y t e i.
            let lt = sa.closed.within s t i in
            let same = f.old s lt in
            subst (λ r. sa.In' y (t ++ r.labels)) (sym same) (sa.closed.over s y t (subst (λ r. Has r.next y) same e) i);
      };
      ends = λ d h u z x. absurd z;
      parts = λ s u q x.
          let lt = sa.closed.within s x.0 x.1 in
          let r = sa.parts s u q (x.0, x.1, x.2 ∙ ap (λ r. x.0 ++ r.labels) (f.old s lt)) in
          (r.0, r.1, in_body r.2);
    }

new_at : {g : List Segment} {In : Lang} (at : ℕ) (Y : List Label → Type 0) → 1 ≤ at → at < next_number g → Closed g In → ((t : List Label) → Cur g In at t → Y t) → New g In Y (new_next g at)
new_at {g} {In} at Y ab lt k all =
    new_closed Y (new_facts g at ab lt) (λ h m. elim m [ inl e ↦ subst (λ n. IsOf g n) e (is_of ab lt) | inr n ↦ absurd n ]) k
    (λ h t m x. elim m [ inl e ↦ all t (subst (λ n. Cur g In n t) (sym e) x) | inr n ↦ absurd n ])

recode_sound : {a : Control} {g : List Segment} {at : ℕ} {g1 : List Segment} {ps : List Pending} {In : Lang} (o c : Completion) → Sound a g at g1 ps In → Sound (Catch o a (Exit c)) g at g1 (recoded o c ps) In
recode_sound {a} {ps = ps} o c sa = record {
  In' = sa.In';
  grows = sa.grows;
  closed = sa.closed;
  ends = λ d h u w x. elim (recoded-waits o c ps d h w) [
    | inl y ↦ let r = sa.ends o h u y.0 x in (r.0, r.1, subst (λ n. Run (Catch o a (Exit c)) r.0 u n) (sym y.1) (caught r.2 exit))
    | inr y ↦ let r = sa.ends d h u y.0 x in (r.0, r.1, passed r.2 y.1)
  ];
  parts = λ s u p x. (let r = sa.parts s u p x in (r.0, r.1, in_catch r.2));
}

mutual
  pub sound : {k : Control} {g : List Segment} {at : ℕ} {g' : List Segment} {ps : List Pending} → Built k g at g' ps → Head g at → (In : Lang) → Closed g In → Sound k g at g' ps In
  sound {g = g} {at = at} (b_emit {l = l}) h In k = emit_sound h (labelled_facts g at l (is_of h.above h.below)) k
  sound b_exit h In k = exit_sound k
  sound (b_catch {c = c} {ps = ps} a q b) h In k =
      let fa = frame a h in
      let i = mid_of {c = c} {ps = ps} q fa.waiting in
      let sa = sound a h In k in
      let sm = passes_of {c = c} {ps = ps} sa.In' q fa.waiting sa.closed in
      seq_sound fa.grows fa.waiting sa i sm (frame b i.head) (sound b i.head sm.In' sm.closed)
  sound (b_dead {c = c} {ps = ps} a q b) h In k =
      let fa = frame a h in
      let i = mid_never {c = c} {ps = ps} q in
      let sa = sound a h In k in
      let sm = passes_never {c = c} {ps = ps} sa.In' q sa.closed in
      dead_sound fa.grows fa.waiting sa i sm (frame b i.head) (sound b i.head sm.In' sm.closed)
  sound {g = g} {at = at} (b_choice {g1 = g1} a b) h In k =
      let f = new_facts g at h.above h.below in
      let n = f.len in
      let l = h.below in
      let fa = frame a (fresh_head f) in
      let la = fa.grows in
      let ab = h.above in
      let lt1 : at < next_number g1 = omega arith in
      let f' = new_facts g1 at ab lt1 in
      let na = new_at at (λ u. Cur g In at u) h.above h.below k (λ t x. x) in
      let sa = sound a (fresh_head f) _ na.closed in
      let nb = new_at at (λ u. Cur g1 sa.In' at u) ab lt1 sa.closed (λ t x. x) in
      choice_sound h.above h.below fa (frame b (fresh_head f')) na sa nb (sound b (fresh_head f') _ nb.closed)
  sound {g = g} {at = at} (b_loop {a = a'} {g1 = g1} {ps = ps} a) h In k =
      let f = new_facts g at h.above h.below in
      let fa = frame a (fresh_head f) in
      let fe = looped_facts (heads Normal ps) g1 (next_number g) (of_heads Normal fa.waiting) in
      let na = new_at at (Turned g In at a') h.above h.below k (λ t x. (t, x, still)) in
      loop_sound h.above h.below fa fe na (sound a (fresh_head f) _ na.closed)
  sound (b_finally a b) h In k =
      let fa = frame a h in
      let sa = sound a h In k in
      finally_sound h.below fa sa (copied b _ fa.waiting) (sound_copies b _ fa.waiting sa.In' sa.closed)
  sound (b_recode {c = o} {d = c} a) h In k = recode_sound o c (sound a h In k)
  sound (b_same a to from) h In k =
      let sa = sound a h In k in
      record { In' = sa.In'; grows = sa.grows; closed = sa.closed; ends = λ c j u w x. sa.ends c j u (to c j w) x; parts = sa.parts }
  sound (b_never {b = b} {g1 = g1} a) h In k = never_sound (sound a h In k) (apart_facts g1 (labels_of b))

  pub sound_copies : {k : Control} {ps : List Pending} {g : List Segment} {g' : List Segment} {qs : List Pending} → Copied k ps g g' qs → (v : Bool) → Waiting g ps v → (In : Lang) → Closed g In → SoundCopies k ps g g' qs In
  sound_copies {g = g} c_done v w In k = record {
    In' = In;
    grows = grows_refl g In;
    closed = k;
    ends = λ e h u z x. absurd z;
    parts = λ s u le x. let lt = k.within s x.0 x.1 in absurd (omega arith);
  }
  sound_copies {g = g} (c_more {p = p} {ps = ps} b c) v w In k =
      let i = mid_join g p.completion (p ∷ ps) v p.head (heads p.completion ps) w (heads_first p ps) in
      let sm = passes_join {c = p.completion} {ps = p ∷ ps} In w k in
      let fb = frame b i.head in
      let w1 = wait_on w i fb in
      let sb = sound b i.head sm.In' sm.closed in
      copies_sound (fresh_facts g (heads p.completion (p ∷ ps)) _ (of_heads p.completion w)).len w i sm fb sb (copied c v w1) (sound_copies c v w1 sb.In' sb.closed)
