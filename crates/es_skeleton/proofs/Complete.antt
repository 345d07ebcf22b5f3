-- Each run of the skeleton is a walk, in the graph that was built and in each that it grows into.
use Rattle.std.proofs.Common.{◌≡◌, ◌≢◌, ℕ, ◌<◌, ◌≤◌, List, [], ◌∷◌, ◌++◌, ◌⊎◌, inl, inr, Bool, true, false, refl, sym, ◌∙◌, ap, subst, arith, append_assoc, append-nil}
use Rattle.std.proofs.lemmas.Bool.{cases_eq}
use Rattle.es_fork.specs.declared.segment.Segment.{Segment}
use Rattle.es_fork.specs.declared.segment.Label.{Label}
use Rattle.es_fork.specs.Graphs.{segment_at, Has}
use Rattle.es_skeleton.specs.declared.completion.Completion.{Completion}
use Rattle.es_skeleton.specs.declared.completion.Completion.TheVariants.{Normal}
use Rattle.es_skeleton.specs.declared.pending.Pending.{Pending}
use Rattle.es_skeleton.specs.Controls.{Control, Emit, Exit, Catch, Choice, Loop, Finally}
use Rattle.es_skeleton.specs.Pendings.{Waits, heads, others, recoded}
use Rattle.es_skeleton.specs.Steps.{next_number, new_next, join, unreachable, GoesOn, joined, alone, never}
use Rattle.es_skeleton.specs.Built.{Head, Waiting, at_head, labels_of, Built, b_emit, b_exit, b_catch, b_dead, b_choice, b_loop, b_finally, b_never, b_same, b_recode, Copied, c_done, c_more}
use Rattle.es_skeleton.proofs.RunsAfter.{Run, emit, exit, caught, passed, left, right, again, leave, kept, replaced, Part, none, emitted, in_catch, after_catch, in_left, in_right, in_loop, after_turn, in_body, in_final}
use Rattle.es_skeleton.proofs.CompletionsLemmas.{cases_same}
use Rattle.es_skeleton.proofs.PendingsLemmas.{waits-recoded_at, waits-recoded_other, waits_left, waits_right, waits-heads, waits-others, others-waits}
use Rattle.es_skeleton.proofs.StepsLemmas.{Labelled, labelled_facts, Edged, looped_facts, Fresh, fresh_facts, new_facts, edge_below, Apart, apart_facts, is_of}
use Rattle.es_skeleton.proofs.Enters.{Enters, along}
use Rattle.es_skeleton.proofs.Frame.{mid_of, mid_never, Frame, Mid, CopyFrame, frame, copied, mid_join, others_wait, wait_on, heads_first, fresh_head, frame_new, of_heads}

-- Each run of the skeleton is a walk, in the graph that was built and in each that it grows into.

-- g grows into G
pub record Ext (g G : List Segment) : Type 0 where
  pub labels : (s : ℕ) → s < next_number g → (x : List Label) × ((segment_at G s).labels ≡ (segment_at g s).labels ++ x)
  pub edges : (s y : ℕ) → Has (segment_at g s).next y → ((segment_at G s).labels ≡ (segment_at g s).labels) × Has (segment_at G s).next y
  pub longer : next_number g ≤ next_number G

pub ext_refl : (g : List Segment) → Ext g g
ext_refl g = record { labels = λ s lt. ([], sym (append-nil (segment_at g s).labels)); edges = λ s y h. (refl, h); longer = omega arith }

pub ext_trans : {a b c : List Segment} → Ext a b → Ext b c → Ext a c
ext_trans {a} {b} {c} p q =
    let l1 = p.longer in
    let l2 = q.longer in
    record {
      labels = λ s lt.
          let x = p.labels s lt in
          let y = q.labels s (omega arith) in
          (x.0 ++ y.0, y.1 ∙ ap (λ l. l ++ y.0) x.1 ∙ append_assoc (segment_at a s).labels x.0 y.0);
      edges = λ s y h. let e = p.edges s y h in let f = q.edges s y e.1 in (f.0 ∙ e.0, f.1);
      longer = omega arith;
    }

ext_labelled : {g : List Segment} {at : ℕ} {l : Label} {g' : List Segment} → Head g at → Labelled g at l g' → Ext g g'
ext_labelled {g} {at} {l} {g'} h f =
    let n = f.len in
    record {
      labels = λ s lt. elim (cases_eq s at) [
        | inl e ↦ (l ∷ [], subst (λ k. (segment_at g' k).labels ≡ (segment_at g k).labels ++ l ∷ []) (sym e) (ap (λ r. r.labels) f.here))
        | inr n ↦ ([], ap (λ r. r.labels) (f.rest s n) ∙ sym (append-nil (segment_at g s).labels))
      ];
      edges = λ s y m. elim (cases_eq s at) [
        | inl e ↦ absurd (subst (λ ys. Has ys y) h.open_at (subst (λ k. Has (segment_at g k).next y) e m))
        | inr n ↦ (ap (λ r. r.labels) (f.rest s n), subst (λ r. Has r.next y) (sym (f.rest s n)) m)
      ];
      longer = omega arith;
    }

pub ext_edged : {g : List Segment} {hs : List ℕ} {j : ℕ} {g' : List Segment} → Edged g hs j g' → Ext g g'
ext_edged {g} f =
    let n = f.len in
    record {
      labels = λ s lt. ([], f.labels s ∙ sym (append-nil (segment_at g s).labels));
      edges = λ s y m. (f.labels s, f.old s y m);
      longer = omega arith;
    }

pub ext_fresh : {g : List Segment} {hs : List ℕ} {b : Bool} {g' : List Segment} → Fresh g hs b g' → Ext g g'
ext_fresh {g} f =
    let n = f.len in
    record {
      labels = λ s lt. ([], f.labels s lt ∙ sym (append-nil (segment_at g s).labels));
      edges = λ s y m. let lt = edge_below g s y m in (f.labels s lt, f.old s y lt m);
      longer = omega arith;
    }

pub ext_apart : {g : List Segment} {ls : List Label} {g' : List Segment} → Apart g ls g' → Ext g g'
ext_apart {g} f =
    let n = f.len in
    record {
      labels = λ s lt. ([], ap (λ r. r.labels) (f.old s lt) ∙ sym (append-nil (segment_at g s).labels));
      edges = λ s y m. let lt = edge_below g s y m in (ap (λ r. r.labels) (f.old s lt), subst (λ r. Has r.next y) (sym (f.old s lt)) m);
      longer = omega arith;
    }

-- a walk of G comes to segment s, and with the labels p of that segment has the word t
abbrev pub At : List Segment → ℕ → List Label → List Label → Type 0
At G s p t = (t0 : List Label) × Enters G s t0 × (t ≡ t0 ++ p)

-- the same, with some first labels of some segment
abbrev pub Somewhere : List Segment → List Label → Type 0
Somewhere G t = (s : ℕ) × (p : List Label) × (x : List Label) × At G s p t × ((segment_at G s).labels ≡ p ++ x)

pub somewhere : {g G : List Segment} {at : ℕ} {t : List Label} → Ext g G → at < next_number g → At G at (segment_at g at).labels t → Somewhere G t
somewhere {g} {at = at} e lt x = let l = e.labels at lt in (at, (segment_at g at).labels, l.0, x, l.1)

-- over an edge of g, from all labels of h, the walk comes to j
pub over_edge : {g G : List Segment} {h j : ℕ} {t : List Label} → Ext g G → Has (segment_at g h).next j → At G h (segment_at g h).labels t → At G j [] t
over_edge {g} {G} {h} {j} e m x =
    let f = e.edges h j m in
    (x.0 ++ (segment_at G h).labels, along x.1 f.1, x.2 ∙ ap (λ l. x.0 ++ l) (sym f.0) ∙ sym (append-nil (x.0 ++ (segment_at G h).labels)))

-- each run from the head `at` of g comes to a head of g' that waits with its exit
pub record Completes (G : List Segment) (k : Control) (g : List Segment) (at : ℕ) (g' : List Segment) (ps : List Pending) : Type 0 where
  pub runs : (t u : List Label) (c : Completion) → At G at (segment_at g at).labels t → Run k t u c → (h : ℕ) × Waits ps c h × At G h (segment_at g' h).labels u
  pub parts : (t u : List Label) → At G at (segment_at g at).labels t → Part k t u → Somewhere G u

-- how the code goes on at `at` of m
pub record Goes (g : List Segment) (c : Completion) (ps : List Pending) (m : List Segment) (at : ℕ) : Type 0 where
  pub ext : Ext g m
  pub comes : (G : List Segment) → Ext m G → (h : ℕ) (t : List Label) → Waits ps c h → At G h (segment_at g h).labels t → At G at (segment_at m at).labels t

goes_fresh : (g : List Segment) (c : Completion) (ps : List Pending) (b : Bool) (m : List Segment) → Fresh g (heads c ps) b m → ((h : ℕ) → Waits ps c h → h < next_number g) → Goes g c ps m (next_number g)
goes_fresh g c ps b m f below = record {
  ext = ext_fresh f;
  comes = λ G e h t w x.
      subst (λ r. At G (next_number g) r.labels t) (sym f.made)
      (over_edge e (f.new h (waits-heads c ps h w)) (subst (λ l. At G h l t) (sym (f.labels h (below h w))) x));
}

pub goes_join : {g : List Segment} {c : Completion} {ps : List Pending} {v : Bool} → Waiting g ps v → Goes g c ps (join g (heads c ps)) (next_number g)
goes_join {g} {c} {ps} w = goes_fresh g c ps _ _ (fresh_facts g (heads c ps) _ (of_heads c w)) (w.below c)

pub goes_on : {g : List Segment} {c : Completion} {ps : List Pending} {v : Bool} {h : ℕ} → Waiting g ps v → heads c ps ≡ h ∷ [] → Goes g c ps g h
goes_on {g} {c} {ps} {h = h} w e = record {
  ext = ext_refl g;
  comes = λ G ex k t z x. elim (subst (λ l. Has l k) e (waits-heads c ps k z)) [ inl q ↦ subst (λ n. At G n (segment_at g n).labels t) (sym q) x | inr n ↦ absurd n ];
}

goes_dead : (g : List Segment) (c : Completion) (ps : List Pending) → heads c ps ≡ [] → Goes g c ps (unreachable g) (next_number g)
goes_dead g c ps e = record {
  ext = ext_fresh (fresh_facts g [] false (λ h m. absurd m));
  comes = λ G ex h t w x. absurd (subst (λ l. Has l h) e (waits-heads c ps h w));
}

pub goes_of : {c : Completion} {ps : List Pending} {g m : List Segment} {h : ℕ} {v : Bool} → GoesOn (heads c ps) g m h true → Waiting g ps v → Goes g c ps m h
goes_of {c} {ps} {g} (joined e) w = goes_join w
goes_of {c} {ps} {g} (alone e) w = goes_on w e

pub goes_never : {c : Completion} {ps : List Pending} {g m : List Segment} {h : ℕ} → GoesOn (heads c ps) g m h false → Goes g c ps m h
goes_never {c} {ps} {g} (never e) = goes_dead g c ps e

pub never_waits : (c : Completion) (ps : List Pending) {g m : List Segment} {h : ℕ} → GoesOn (heads c ps) g m h false → (k : ℕ) → Waits ps c k → ⊥
never_waits c ps (never e) k w = subst (λ l. Has l k) e (waits-heads c ps k w)

-- the labels of a segment that stays the same
keep_at : (g g2 : List Segment) {G : List Segment} (h : ℕ) {t : List Label} → segment_at g2 h ≡ segment_at g h → At G h (segment_at g h).labels t → At G h (segment_at g2 h).labels t
keep_at g g2 {G = G} h {t = t} e x = subst (λ r. At G h r.labels t) (sym e) x

seq_runs : {G : List Segment} {a b : Control} {g : List Segment} {at : ℕ} {g1 : List Segment} {c : Completion} {ps : List Pending} {m : List Segment} {k : ℕ} {v u0 : Bool} {g2 : List Segment} {qs : List Pending} →
    Completes G a g at g1 ps → Waiting g1 ps v → Mid g1 c ps m k u0 → Goes g1 c ps m k → Frame m k g2 qs → Ext m G → Completes G b m k g2 qs →
    (t u : List Label) (d : Completion) → At G at (segment_at g at).labels t → Run (Catch c a b) t u d → (h : ℕ) × Waits (others c ps ++ qs) d h × At G h (segment_at g2 h).labels u
seq_runs {G} {c = c} {ps = ps} {qs = qs} ca w i go f e cb t u d x (caught {u = s} ra rb) =
    let r = ca.runs t s c x ra in
    let y = go.comes G e r.0 s r.1 r.2 in
    let z = cb.runs s u d y rb in
    (z.0, waits_right (others c ps) qs d z.0 z.1, z.2)
seq_runs {G} {c = c} {ps = ps} {qs = qs} ca w i go f e cb t u d x (passed ra n) =
    let r = ca.runs t u d x ra in
    (r.0, waits_left (others c ps) qs d r.0 (waits-others c ps d r.0 r.1 n), keep_at _ _ r.0 (others_wait w i f d r.0 r.1 n).1 r.2)

seq_parts : {G : List Segment} {a b : Control} {g : List Segment} {at : ℕ} {g1 : List Segment} {c : Completion} {ps : List Pending} {m : List Segment} {k : ℕ} {g2 : List Segment} {qs : List Pending} →
    Completes G a g at g1 ps → Goes g1 c ps m k → Ext m G → Completes G b m k g2 qs → at < next_number g → Ext g G →
    (t u : List Label) → At G at (segment_at g at).labels t → Part (Catch c a b) t u → Somewhere G u
seq_parts ca go e cb lt eg t u x none = somewhere eg lt x
seq_parts ca go e cb lt eg t u x (in_catch p) = ca.parts t u x p
seq_parts {G} {c = c} ca go e cb lt eg t u x (after_catch {u = s} ra pb) =
    let r = ca.runs t s c x ra in
    cb.parts s u (go.comes G e r.0 s r.1 r.2) pb

at_new : (g : List Segment) (at : ℕ) {G : List Segment} {t : List Label} → 1 ≤ at → at < next_number g → Ext (new_next g at) G → At G at (segment_at g at).labels t →
    At G (next_number g) (segment_at (new_next g at) (next_number g)).labels t
at_new g at {G} {t} ab lt e x =
    let f = new_facts g at ab lt in
    subst (λ r. At G (next_number g) r.labels t) (sym f.made) (over_edge e (f.new at (inl refl)) (subst (λ l. At G at l t) (sym (f.labels at lt)) x))

mutual
  pub ext : {k : Control} {g : List Segment} {at : ℕ} {g' : List Segment} {ps : List Pending} → Built k g at g' ps → Head g at → Ext g g'
  ext {g = g} {at = at} (b_emit {l = l}) h = ext_labelled h (labelled_facts g at l (is_of h.above h.below))
  ext {g = g} b_exit h = ext_refl g
  ext (b_catch {c = c} {ps = ps} a e b) h =
      let w = (frame a h).waiting in
      ext_trans (ext a h) (ext_trans (goes_of {c = c} {ps = ps} e w).ext (ext b (mid_of {c = c} {ps = ps} e w).head))
  ext (b_dead {c = c} {ps = ps} a e b) h = ext_trans (ext a h) (ext_trans (goes_never {c = c} {ps = ps} e).ext (ext b (mid_never {c = c} {ps = ps} e).head))
  ext {g = g} {at = at} (b_choice {g1 = g1} a b) h =
      let f = new_facts g at h.above h.below in
      let a' = frame_new h.above h.below (frame a (fresh_head f)) in
      let l = a'.0.grows in
      let l0 = h.below in
      let f' = new_facts g1 at h.above (omega arith) in
      ext_trans (ext_fresh f) (ext_trans (ext a (fresh_head f)) (ext_trans (ext_fresh f') (ext b (fresh_head f'))))
  ext {g = g} {at = at} (b_loop {ps = ps} a) h =
      let f = new_facts g at h.above h.below in
      let w = (frame a (fresh_head f)).waiting in
      ext_trans (ext_fresh f) (ext_trans (ext a (fresh_head f)) (ext_edged (looped_facts (heads Normal ps) _ (next_number g) (of_heads Normal w))))
  ext (b_finally a b) h = ext_trans (ext a h) (ext_copies b _ (frame a h).waiting)
  ext (b_same a to from) h = ext a h
  ext (b_recode a) h = ext a h
  ext (b_never {b = b} {g1 = g1} a) h = ext_trans (ext a h) (ext_apart (apart_facts g1 (labels_of b)))

  pub ext_copies : {k : Control} {ps : List Pending} {g : List Segment} {g' : List Segment} {qs : List Pending} → Copied k ps g g' qs → (v : Bool) → Waiting g ps v → Ext g g'
  ext_copies {g = g} c_done v w = ext_refl g
  ext_copies {g = g} (c_more {p = p} {ps = ps} b c) v w =
      let i = mid_join g p.completion (p ∷ ps) v p.head (heads p.completion ps) w (heads_first p ps) in
      ext_trans (goes_join {c = p.completion} w).ext (ext_trans (ext b i.head) (ext_copies c v (wait_on w i (frame b i.head))))

choice_runs : {G : List Segment} {a b : Control} (g : List Segment) {at : ℕ} {g1 : List Segment} {ps : List Pending} {g2 : List Segment} {qs : List Pending} → 1 ≤ at → at < next_number g → at < next_number g1 →
    Ext (new_next g at) G → Completes G a (new_next g at) (next_number g) g1 ps → Ext (new_next g1 at) G → Completes G b (new_next g1 at) (next_number g1) g2 qs →
    (segment_at g1 at).labels ≡ (segment_at g at).labels → ((c : Completion) (h : ℕ) → Waits ps c h → segment_at g2 h ≡ segment_at g1 h) →
    (t u : List Label) (d : Completion) → At G at (segment_at g at).labels t → Run (Choice a b) t u d → (h : ℕ) × Waits (ps ++ qs) d h × At G h (segment_at g2 h).labels u
choice_runs g {g1 = g1} {ps = ps} {g2 = g2} {qs = qs} ab lt lt1 ea ca eb cb same keep t u d x (left r) =
    let z = ca.runs t u d (at_new _ _ ab lt ea x) r in
    (z.0, waits_left ps qs d z.0 z.1, keep_at g1 g2 z.0 (keep d z.0 z.1) z.2)
choice_runs {G} g {at = at} {ps = ps} {qs = qs} ab lt lt1 ea ca eb cb same keep t u d x (right r) =
    let z = cb.runs t u d (at_new _ _ ab lt1 eb (subst (λ l. At G at l t) (sym same) x)) r in
    (z.0, waits_right ps qs d z.0 z.1, z.2)

choice_parts : {G : List Segment} {a b : Control} {g : List Segment} {at : ℕ} {g1 : List Segment} {ps : List Pending} {g2 : List Segment} {qs : List Pending} → 1 ≤ at → at < next_number g → at < next_number g1 → Ext g G →
    Ext (new_next g at) G → Completes G a (new_next g at) (next_number g) g1 ps → Ext (new_next g1 at) G → Completes G b (new_next g1 at) (next_number g1) g2 qs →
    (segment_at g1 at).labels ≡ (segment_at g at).labels →
    (t u : List Label) → At G at (segment_at g at).labels t → Part (Choice a b) t u → Somewhere G u
choice_parts ab lt lt1 eg ea ca eb cb same t u x none = somewhere eg lt x
choice_parts ab lt lt1 eg ea ca eb cb same t u x (in_left r) = ca.parts t u (at_new _ _ ab lt ea x) r
choice_parts {G} {at = at} ab lt lt1 eg ea ca eb cb same t u x (in_right r) = cb.parts t u (at_new _ _ ab lt1 eb (subst (λ l. At G at l t) (sym same) x)) r

loop_runs : {G : List Segment} {a : Control} {m : List Segment} {k : ℕ} {g1 : List Segment} {ps : List Pending} (g2 : List Segment) →
    Completes G a m k g1 ps → ((h : ℕ) (t : List Label) → Waits ps Normal h → At G h (segment_at g1 h).labels t → At G k (segment_at m k).labels t) →
    ((h : ℕ) → (segment_at g2 h).labels ≡ (segment_at g1 h).labels) → {t u : List Label} {d : Completion} → At G k (segment_at m k).labels t → Run (Loop a) t u d →
    (h : ℕ) × Waits (others Normal ps) d h × At G h (segment_at g2 h).labels u
loop_runs g2 ca back same x (again {t = t} {u = s} ra rl) = let r = ca.runs t s Normal x ra in loop_runs g2 ca back same (back r.0 s r.1 r.2) rl
loop_runs {G} {ps = ps} g2 ca back same x (leave {t = t} {u = u} {d = d} ra n) =
    let r = ca.runs t u d x ra in
    (r.0, waits-others Normal ps d r.0 r.1 n, subst (λ l. At G r.0 l u) (sym (same r.0)) r.2)

loop_parts : {G : List Segment} {a : Control} {m : List Segment} {k : ℕ} {g1 : List Segment} {ps : List Pending} → Ext m G → k < next_number m →
    Completes G a m k g1 ps → ((h : ℕ) (t : List Label) → Waits ps Normal h → At G h (segment_at g1 h).labels t → At G k (segment_at m k).labels t) →
    {t u : List Label} → At G k (segment_at m k).labels t → Part (Loop a) t u → Somewhere G u
loop_parts e lt ca back x none = somewhere e lt x
loop_parts e lt ca back x (in_loop {t = t} {u = u} p) = ca.parts t u x p
loop_parts e lt ca back x (after_turn {t = t} {u = s} ra p) = let r = ca.runs t s Normal x ra in loop_parts e lt ca back (back r.0 s r.1 r.2) p

-- with d at the end of the finalizer for the exit c the whole ends with e
abbrev pub Outcome : Completion → Completion → Completion → Type 0
Outcome c d e = ((d ≡ Normal) × (e ≡ c)) ⊎ ((d ≢ Normal) × (e ≡ d))

pub record CompletesCopies (G : List Segment) (b : Control) (ps : List Pending) (g g' : List Segment) (qs : List Pending) : Type 0 where
  pub runs : (t u : List Label) (c : Completion) (h : ℕ) → Waits ps c h → At G h (segment_at g h).labels t → (d e : Completion) → Run b t u d → Outcome c d e →
      (h' : ℕ) × Waits qs e h' × At G h' (segment_at g' h').labels u
  pub parts : (t u : List Label) (c : Completion) (h : ℕ) → Waits ps c h → At G h (segment_at g h).labels t → Part b t u → Somewhere G u

renamed_outcome : (c : Completion) (qs : List Pending) (d e : Completion) (h : ℕ) → Waits qs d h → Outcome c d e → Waits (recoded Normal c qs) e h
renamed_outcome c qs d e h w (inl o) = subst (λ n. Waits (recoded Normal c qs) n h) (sym o.1) (waits-recoded_at Normal c qs h (subst (λ n. Waits qs n h) o.0 w))
renamed_outcome c qs d e h w (inr o) = subst (λ n. Waits (recoded Normal c qs) n h) (sym o.1) (waits-recoded_other Normal c qs d h w o.0)

copies_more : {G : List Segment} {b : Control} {g : List Segment} {c : Completion} {ps : List Pending} {m : List Segment} {at : ℕ} {v : Bool} {g1 : List Segment} {qs : List Pending} {g2 : List Segment} {rs : List Pending} →
    next_number g ≤ at → Waiting g ps v → Mid g c ps m at v → Goes g c ps m at → Frame m at g1 qs → Ext m G → Completes G b m at g1 qs →
    CopyFrame g1 (others c ps) g2 rs v → CompletesCopies G b (others c ps) g1 g2 rs → CompletesCopies G b ps g g2 (recoded Normal c qs ++ rs)
copies_more {G} {b} {g} {c} {ps} {m} {at} {v} {g1} {qs} {g2} {rs} past w i go f e cb k ck =
    let l1 = i.grows in
    let keep : (d : Completion) (h : ℕ) → Waits qs d h → segment_at g2 h ≡ segment_at g1 h = λ d h z.
    let lt = f.waiting.below d h z in
    let le : next_number g ≤ h = elim (f.place d h z) [ inl q ↦ omega arith | inr q ↦ omega arith ] in
    k.same h lt (λ d' y. let b = w.below d' h (others-waits c ps d' h y).0 in omega arith) in
    record {
      runs = λ t u c' h z x d o r q. elim (cases_same c' c) [
        | inl y ↦
            let z' : Waits ps c h = subst (λ n. Waits ps n h) y z in
            let s = cb.runs t u d (go.comes G e h t z' x) r in
            (s.0, waits_left (recoded Normal c qs) rs o s.0 (renamed_outcome c qs d o s.0 s.1 (subst (λ n. Outcome n d o) y q)), keep_at g1 g2 s.0 (keep d s.0 s.1) s.2)
        | inr n ↦
            let s = ck.runs t u c' h (waits-others c ps c' h z n) (keep_at g g1 h (others_wait w i f c' h z n).1 x) d o r q in
            (s.0, waits_right (recoded Normal c qs) rs o s.0 s.1, s.2)
      ];
      parts = λ t u c' h z x p. elim (cases_same c' c) [
        | inl y ↦ cb.parts t u (go.comes G e h t (subst (λ n. Waits ps n h) y z) x) p
        | inr n ↦ ck.parts t u c' h (waits-others c ps c' h z n) (keep_at g g1 h (others_wait w i f c' h z n).1 x) p
      ];
    }

finally_runs : {G : List Segment} {a b : Control} {g : List Segment} {at : ℕ} {g1 : List Segment} {ps : List Pending} {g2 : List Segment} {qs : List Pending} →
    Completes G a g at g1 ps → CompletesCopies G b ps g1 g2 qs →
    (t u : List Label) (d : Completion) → At G at (segment_at g at).labels t → Run (Finally a b) t u d → (h : ℕ) × Waits qs d h × At G h (segment_at g2 h).labels u
finally_runs ca cb t u d x (kept {u = s} ra rb) = let r = ca.runs t s d x ra in cb.runs s u d r.0 r.1 r.2 Normal d rb (inl (refl, refl))
finally_runs ca cb t u d x (replaced {u = s} {c = c} ra rb n) = let r = ca.runs t s c x ra in cb.runs s u c r.0 r.1 r.2 d d rb (inr (n, refl))

finally_parts : {G : List Segment} {a b : Control} {g : List Segment} {at : ℕ} {g1 : List Segment} {ps : List Pending} {g2 : List Segment} {qs : List Pending} → at < next_number g → Ext g G →
    Completes G a g at g1 ps → CompletesCopies G b ps g1 g2 qs →
    (t u : List Label) → At G at (segment_at g at).labels t → Part (Finally a b) t u → Somewhere G u
finally_parts lt e ca cb t u x none = somewhere e lt x
finally_parts lt e ca cb t u x (in_body p) = ca.parts t u x p
finally_parts lt e ca cb t u x (in_final {u = s} {c = c} ra p) = let r = ca.runs t s c x ra in cb.parts s u c r.0 r.1 r.2 p

emit_runs : {G : List Segment} {l : Label} {g : List Segment} {at : ℕ} {g' : List Segment} → Labelled g at l g' →
    (t u : List Label) (d : Completion) → At G at (segment_at g at).labels t → Run (Emit l) t u d → (h : ℕ) × Waits (at_head Normal at ∷ []) d h × At G h (segment_at g' h).labels u
emit_runs {l = l} {g = g} {at = at} f t u d x emit =
    (at, inl (refl, refl), (x.0, x.1, ap (λ s. s ++ l ∷ []) x.2 ∙ append_assoc x.0 (segment_at g at).labels (l ∷ []) ∙ ap (λ r. x.0 ++ r.labels) (sym f.here)))

emit_parts : {G : List Segment} {l : Label} {g : List Segment} {at : ℕ} {g' : List Segment} → Head g at → Labelled g at l g' → Ext g G → Ext g' G →
    (t u : List Label) → At G at (segment_at g at).labels t → Part (Emit l) t u → Somewhere G u
emit_parts h f e e' t u x none = somewhere e h.below x
emit_parts {l = l} h f e e' t u x emitted =
    let r = emit_runs f t u Normal x emit in
    let n = f.len in
    let b = h.below in
    somewhere e' (omega arith) (r.2)

exit_runs : {G : List Segment} {c : Completion} (g : List Segment) (at : ℕ) →
    (t u : List Label) (d : Completion) → At G at (segment_at g at).labels t → Run (Exit c) t u d → (h : ℕ) × Waits (at_head c at ∷ []) d h × At G h (segment_at g h).labels u
exit_runs g at t u d x exit = (at, inl (refl, refl), x)

exit_parts : {G : List Segment} {c : Completion} {g : List Segment} {at : ℕ} → Head g at → Ext g G → (t u : List Label) → At G at (segment_at g at).labels t → Part (Exit c) t u → Somewhere G u
exit_parts h e t u x none = somewhere e h.below x

never_runs : {G : List Segment} {a b : Control} {g : List Segment} {at : ℕ} {g1 : List Segment} (g2 : List Segment) → Completes G a g at g1 [] →
    (t u : List Label) (d : Completion) → At G at (segment_at g at).labels t → Run (Finally a b) t u d → (h : ℕ) × Waits [] d h × At G h (segment_at g2 h).labels u
never_runs g2 ca t u d x (kept {u = s} ra rb) = absurd (ca.runs t s d x ra).1
never_runs g2 ca t u d x (replaced {u = s} {c = c} ra rb n) = absurd (ca.runs t s c x ra).1

never_parts : {G : List Segment} {a b : Control} {g : List Segment} {at : ℕ} {g1 : List Segment} → at < next_number g → Ext g G → Completes G a g at g1 [] →
    (t u : List Label) → At G at (segment_at g at).labels t → Part (Finally a b) t u → Somewhere G u
never_parts lt e ca t u x none = somewhere e lt x
never_parts lt e ca t u x (in_body p) = ca.parts t u x p
never_parts lt e ca t u x (in_final {u = s} {c = c} ra p) = absurd (ca.runs t s c x ra).1

dead_runs : {G : List Segment} {a b : Control} {g : List Segment} {at : ℕ} {g1 : List Segment} {c : Completion} {ps : List Pending} {m : List Segment} {k : ℕ} {v u0 : Bool} {g2 : List Segment} {qs : List Pending} →
    Completes G a g at g1 ps → Waiting g1 ps v → ((j : ℕ) → Waits ps c j → ⊥) → Mid g1 c ps m k u0 → Frame m k g2 qs →
    (t u : List Label) (d : Completion) → At G at (segment_at g at).labels t → Run (Catch c a b) t u d → (h : ℕ) × Waits (others c ps) d h × At G h (segment_at g2 h).labels u
dead_runs {c = c} {ps = ps} ca w e i f t u d x (caught {u = s} ra rb) =
    let r = ca.runs t s c x ra in
    absurd (e r.0 r.1)
dead_runs {c = c} {ps = ps} ca w e i f t u d x (passed ra n) =
    let r = ca.runs t u d x ra in
    (r.0, waits-others c ps d r.0 r.1 n, keep_at _ _ r.0 (others_wait w i f d r.0 r.1 n).1 r.2)

recode_runs : {G : List Segment} {a : Control} {g : List Segment} {at : ℕ} {g1 : List Segment} {ps : List Pending} (o c : Completion) → Completes G a g at g1 ps →
    (t u : List Label) (d : Completion) → At G at (segment_at g at).labels t → Run (Catch o a (Exit c)) t u d → (h : ℕ) × Waits (recoded o c ps) d h × At G h (segment_at g1 h).labels u
recode_runs {ps = ps} o c ca t u d x (caught ra exit) = let r = ca.runs t u o x ra in (r.0, waits-recoded_at o c ps r.0 r.1, r.2)
recode_runs {ps = ps} o c ca t u d x (passed ra n) = let r = ca.runs t u d x ra in (r.0, waits-recoded_other o c ps d r.0 r.1 n, r.2)

recode_parts : {G : List Segment} {a : Control} {g : List Segment} {at : ℕ} {g1 : List Segment} {ps : List Pending} {v : Bool} (o c : Completion) → at < next_number g → Ext g G → Waiting g1 ps v → Ext g1 G → Completes G a g at g1 ps →
    (t u : List Label) → At G at (segment_at g at).labels t → Part (Catch o a (Exit c)) t u → Somewhere G u
recode_parts o c lt e w e1 ca t u x none = somewhere e lt x
recode_parts o c lt e w e1 ca t u x (in_catch p) = ca.parts t u x p
recode_parts o c lt e w e1 ca t u x (after_catch ra none) = let r = ca.runs t u o x ra in somewhere e1 (w.below o r.0 r.1) r.2

mutual
  pub complete : {k : Control} {g : List Segment} {at : ℕ} {g' : List Segment} {ps : List Pending} → Built k g at g' ps → Head g at → (G : List Segment) → Ext g' G → Completes G k g at g' ps
  complete {g = g} {at = at} (b_emit {l = l}) h G e =
      let f = labelled_facts g at l (is_of h.above h.below) in
      record { runs = emit_runs f; parts = emit_parts h f (ext_trans (ext_labelled h f) e) e }
  complete b_exit h G e = record { runs = exit_runs _ _; parts = exit_parts h e }
  complete (b_catch {c = c} {ps = ps} a q b) h G e =
      let w = (frame a h).waiting in
      let i = mid_of {c = c} {ps = ps} q w in
      let go = goes_of {c = c} {ps = ps} q w in
      let em = ext_trans (ext b i.head) e in
      let ca = complete a h G (ext_trans go.ext em) in
      let cb = complete b i.head G e in
      record { runs = seq_runs ca w i go (frame b i.head) em cb; parts = seq_parts ca go em cb h.below (ext_trans (ext a h) (ext_trans go.ext em)) }
  complete (b_dead {c = c} {ps = ps} a q b) h G e =
      let w = (frame a h).waiting in
      let i = mid_never {c = c} {ps = ps} q in
      let go = goes_never {c = c} {ps = ps} q in
      let em = ext_trans (ext b i.head) e in
      let ca = complete a h G (ext_trans go.ext em) in
      let cb = complete b i.head G e in
      record { runs = dead_runs ca w (never_waits _ _ q) i (frame b i.head); parts = seq_parts ca go em cb h.below (ext_trans (ext a h) (ext_trans go.ext em)) }
  complete {g = g} {at = at} (b_choice {g1 = g1} a b) h G e =
      let f = new_facts g at h.above h.below in
      let fa = frame a (fresh_head f) in
      let a' = frame_new h.above h.below fa in
      let l = a'.0.grows in
      let l0 = h.below in
      let n0 = f.len in
      let lt1 : at < next_number g1 = omega arith in
      let f' = new_facts g1 at h.above lt1 in
      let b' = frame_new h.above lt1 (frame b (fresh_head f')) in
      let eb = ext_trans (ext b (fresh_head f')) e in
      let ea = ext_trans (ext a (fresh_head f)) (ext_trans (ext_fresh f') eb) in
      let ca = complete a (fresh_head f) G (ext_trans (ext_fresh f') eb) in
      let cb = complete b (fresh_head f') G e in
      let same : (segment_at g1 at).labels ≡ (segment_at g at).labels = ap (λ r. r.labels) (fa.same at (omega arith) (omega arith)) ∙ f.labels at h.below in
      record {
        runs = choice_runs g h.above h.below lt1 ea ca eb cb same (λ c k w. let z = a'.1 c k w in let y = a'.0.waiting.below c k w in b'.0.same k y (omega arith));
        parts = choice_parts h.above h.below lt1 (ext_trans (ext_fresh f) ea) ea ca eb cb same;
      }
  complete {g = g} {at = at} (b_loop {g1 = g1} {ps = ps} a) h G e =
      let f = new_facts g at h.above h.below in
      let w = (frame a (fresh_head f)).waiting in
      let fe = looped_facts (heads Normal ps) g1 (next_number g) (of_heads Normal w) in
      let e1 = ext_trans (ext_edged fe) e in
      let em = ext_trans (ext a (fresh_head f)) e1 in
      let ca = complete a (fresh_head f) G e1 in
      let back : (k : ℕ) (t : List Label) → Waits ps Normal k → At G k (segment_at g1 k).labels t → At G (next_number g) (segment_at (new_next g at) (next_number g)).labels t =
      λ k t z x. subst (λ r. At G (next_number g) r.labels t) (sym f.made) (over_edge e (fe.new k (waits-heads Normal ps k z)) (subst (λ l. At G k l t) (sym (fe.labels k)) x)) in
      record {
        runs = λ t u c x r. loop_runs _ ca back fe.labels (at_new _ _ h.above h.below em x) r;
        parts = λ t u x p. loop_parts em (fresh_head f).below ca back (at_new _ _ h.above h.below em x) p;
      }
  complete (b_finally a b) h G e =
      let w = (frame a h).waiting in
      let eb = ext_copies b _ w in
      let ca = complete a h G (ext_trans eb e) in
      let cb = complete_copies b _ w G e in
      record { runs = finally_runs ca cb; parts = finally_parts h.below (ext_trans (ext a h) (ext_trans eb e)) ca cb }
  complete (b_recode {c = o} {d = c} a) h G e =
      let ca = complete a h G e in
      record { runs = recode_runs o c ca; parts = recode_parts o c h.below (ext_trans (ext a h) e) (frame a h).waiting e ca }
  complete (b_same a to from) h G e =
      let ca = complete a h G e in
      record { runs = λ t u c x r. (let z = ca.runs t u c x r in (z.0, from c z.0 z.1, z.2)); parts = ca.parts }
  complete (b_never {b = b} {g1 = g1} a) h G e =
      let e1 = ext_trans (ext_apart (apart_facts g1 (labels_of b))) e in
      let ca = complete a h G e1 in
      record { runs = never_runs _ ca; parts = never_parts h.below (ext_trans (ext a h) e1) ca }

  pub complete_copies : {k : Control} {ps : List Pending} {g : List Segment} {g' : List Segment} {qs : List Pending} → Copied k ps g g' qs → (v : Bool) → Waiting g ps v → (G : List Segment) → Ext g' G → CompletesCopies G k ps g g' qs
  complete_copies c_done v w G e = record { runs = λ t u c h z x d o r q. absurd z; parts = λ t u c h z x p. absurd z }
  complete_copies {g = g} (c_more {p = p} {ps = ps} b c) v w G e =
      let i = mid_join g p.completion (p ∷ ps) v p.head (heads p.completion ps) w (heads_first p ps) in
      let go = goes_join {c = p.completion} w in
      let fb = frame b i.head in
      let w1 = wait_on w i fb in
      let e1 = ext_trans (ext_copies c v w1) e in
      copies_more (omega arith) w i go fb (ext_trans (ext b i.head) e1) (complete b i.head G e1) (copied c v w1) (complete_copies c v w1 G e)
