-- The labels of a graph that was built are those of its skeleton.
use Rattle.std.proofs.Common.{◌≡◌, ℕ, ◌<◌, List, [], ◌∷◌, ◌++◌, ◌⊎◌, inl, inr, Bool, false, sym, ap, subst, arith}
use Rattle.std.proofs.lemmas.Bool.{cases_eq, cases_lt}
use Rattle.es_fork.specs.declared.segment.Segment.{Segment}
use Rattle.es_fork.specs.declared.segment.Label.{Label}
use Rattle.es_fork.specs.Graphs.{segment_at, Has}
use Rattle.es_skeleton.specs.declared.completion.Completion.{Completion}
use Rattle.es_skeleton.specs.declared.completion.Completion.TheVariants.{Normal}
use Rattle.es_skeleton.specs.declared.pending.Pending.{Pending}
use Rattle.es_skeleton.specs.Controls.{Control, Emit, Exit, Catch, Choice, Loop, Finally}
use Rattle.es_skeleton.specs.Pendings.{heads}
use Rattle.es_skeleton.specs.Steps.{next_number, some_reachable, GoesOn, joined, alone, never}
use Rattle.es_skeleton.specs.Built.{Head, Waiting, labels_of, Built, b_emit, b_exit, b_catch, b_dead, b_choice, b_loop, b_finally, b_never, b_same, b_recode, Copied, c_done, c_more}
use Rattle.es_skeleton.specs.Exact.{Says}
use Rattle.es_skeleton.proofs.StepsLemmas.{Labelled, labelled_facts, Edged, looped_facts, Fresh, fresh_facts, new_facts, past_end, Apart, apart_facts, is_of, has_left, has_right, has_last, has_either, has_append}
use Rattle.es_skeleton.proofs.Frame.{mid_of, mid_never, frame, frame_new, mid_join, wait_on, heads_first, fresh_head, of_heads}
use Rattle.es_skeleton.proofs.Complete.{Ext, ext, ext_copies, ext_trans, ext_fresh, ext_edged, ext_apart, goes_of, goes_never}

-- The labels of a graph that was built are those of its skeleton.

abbrev pub Shown : List Segment → Label → Type 0
Shown g x = (s : ℕ) × Has (segment_at g s).labels x

pub shown_below : (g : List Segment) (s : ℕ) (x : Label) → Has (segment_at g s).labels x → s < next_number g
shown_below g s x h = elim (cases_lt s (next_number g)) [ inl lt ↦ lt | inr le ↦ absurd (subst (λ r. Has r.labels x) (past_end g s le) h) ]

shown_ext : {g g' : List Segment} (x : Label) → Ext g g' → Shown g x → Shown g' x
shown_ext {g} x e s =
    let l = e.labels s.0 (shown_below g s.0 x s.1) in
    (s.0, subst (λ r. Has r x) (sym l.1) (has_left (segment_at g s.0).labels l.0 x s.1))

shown_labelled : {g : List Segment} {s : ℕ} {l : Label} {g' : List Segment} (x : Label) → Labelled g s l g' → Shown g' x → Shown g x ⊎ (l ≡ x)
shown_labelled {g} {s} {l} {g'} x f y = elim (cases_eq y.0 s) [
  | inl e ↦ elim (has_either (segment_at g s).labels l x (subst (λ r. Has r x) (ap (λ r. r.labels) f.here) (subst (λ k. Has (segment_at g' k).labels x) e y.1))) [ inl a ↦ inl (s, a) | inr b ↦ inr (sym b) ]
  | inr n ↦ inl (y.0, subst (λ r. Has r.labels x) (f.rest y.0 n) y.1)
]

shown_fresh : {g : List Segment} {hs : List ℕ} {b : Bool} {g' : List Segment} (x : Label) → Fresh g hs b g' → Shown g' x → Shown g x
shown_fresh {g} {hs} {b} {g'} x f y =
    let lt : y.0 < next_number g' = shown_below g' y.0 x y.1 in
    let n = f.len in
    elim (cases_eq y.0 (next_number g)) [
      | inl e ↦ absurd (subst (λ r. Has r.labels x) f.made (subst (λ k. Has (segment_at g' k).labels x) e y.1))
      | inr ne ↦ (y.0, subst (λ r. Has r x) (f.labels y.0 (omega arith)) y.1)
    ]

shown_edged : {g : List Segment} {hs : List ℕ} {j : ℕ} {g' : List Segment} (x : Label) → Edged g hs j g' → Shown g' x → Shown g x
shown_edged x f y = (y.0, subst (λ r. Has r x) (f.labels y.0) y.1)

pub labels_says : (k : Control) (x : Label) → Has (labels_of k) x → Says k x
labels_says (Emit l) x m = elim m [ inl e ↦ e | inr n ↦ absurd n ]
labels_says (Exit c) x m = m
labels_says (Catch c a b) x m = elim (has_append (labels_of a) (labels_of b) x m) [ inl y ↦ inl (labels_says a x y) | inr y ↦ inr (labels_says b x y) ]
labels_says (Choice a b) x m = elim (has_append (labels_of a) (labels_of b) x m) [ inl y ↦ inl (labels_says a x y) | inr y ↦ inr (labels_says b x y) ]
labels_says (Loop a) x m = labels_says a x m
labels_says (Finally a b) x m = elim (has_append (labels_of a) (labels_of b) x m) [ inl y ↦ inl (labels_says a x y) | inr y ↦ inr (labels_says b x y) ]

pub says_labels : (k : Control) (x : Label) → Says k x → Has (labels_of k) x
says_labels (Emit l) x e = inl e
says_labels (Exit c) x m = m
says_labels (Catch c a b) x (inl y) = has_left (labels_of a) (labels_of b) x (says_labels a x y)
says_labels (Catch c a b) x (inr y) = has_right (labels_of a) (labels_of b) x (says_labels b x y)
says_labels (Choice a b) x (inl y) = has_left (labels_of a) (labels_of b) x (says_labels a x y)
says_labels (Choice a b) x (inr y) = has_right (labels_of a) (labels_of b) x (says_labels b x y)
says_labels (Loop a) x m = says_labels a x m
says_labels (Finally a b) x (inl y) = has_left (labels_of a) (labels_of b) x (says_labels a x y)
says_labels (Finally a b) x (inr y) = has_right (labels_of a) (labels_of b) x (says_labels b x y)

shown_apart : {g : List Segment} {ls : List Label} {g' : List Segment} (x : Label) → Apart g ls g' → Shown g' x → Shown g x ⊎ Has ls x
shown_apart {g} {ls} {g'} x f y =
    let lt : y.0 < next_number g' = shown_below g' y.0 x y.1 in
    let n = f.len in
    elim (cases_eq y.0 (next_number g)) [
      | inl e ↦ inr (subst (λ r. Has r.labels x) f.made (subst (λ k. Has (segment_at g' k).labels x) e y.1))
      | inr ne ↦ inl (y.0, subst (λ r. Has r.labels x) (f.old y.0 (omega arith)) y.1)
    ]

shown_on : (c : Completion) (ps : List Pending) {g m : List Segment} {h : ℕ} {b v : Bool} (x : Label) → GoesOn (heads c ps) g m h b → Waiting g ps v → Shown m x → Shown g x
shown_on c ps {g} x (joined e) w y = shown_fresh x (fresh_facts g (heads c ps) (some_reachable g (heads c ps)) (of_heads c w)) y
shown_on c ps x (alone e) w y = y
shown_on c ps {g = g} x (never e) w y = shown_fresh x (fresh_facts g [] false (λ h m. absurd m)) y

more : {A B C : Type 0} → A ⊎ B → (B → C) → A ⊎ C
more (inl a) f = inl a
more (inr b) f = inr (f b)

then_or : {A B C D : Type 0} → A ⊎ B → (A → C ⊎ D) → C ⊎ (D ⊎ B)
then_or (inl a) f = more (f a) inl
then_or (inr b) f = inr (inr b)

mutual
  pub only_says : {k : Control} {g : List Segment} {at : ℕ} {g' : List Segment} {ps : List Pending} → Built k g at g' ps → Head g at → (x : Label) → Shown g' x → Shown g x ⊎ Says k x
  only_says {g = g} {at = at} (b_emit {l = l}) h x y = shown_labelled x (labelled_facts g at l (is_of h.above h.below)) y
  only_says b_exit h x y = inl y
  only_says (b_catch {c = c} {ps = ps} a q b) h x y =
      let w = (frame a h).waiting in
      then_or (only_says b (mid_of {c = c} {ps = ps} q w).head x y) (λ z. only_says a h x (shown_on c ps x q w z))
  only_says (b_dead {c = c} {ps = ps} a q b) h x y =
      let w = (frame a h).waiting in
      then_or (only_says b (mid_never {c = c} {ps = ps} q).head x y) (λ z. only_says a h x (shown_on c ps x q w z))
  only_says {g = g} {at = at} (b_choice {g1 = g1} a b) h x y =
      let l = h.below in
      let f = new_facts g at h.above l in
      let fa = (frame_new h.above l (frame a (fresh_head f))).0 in
      let l1 = fa.grows in
      let lt1 : at < next_number g1 = omega arith in
      let f' = new_facts g1 at h.above lt1 in
      then_or (only_says b (fresh_head f') x y) (λ z. elim (only_says a (fresh_head f) x (shown_fresh x f' z)) [ inl u ↦ inl (shown_fresh x f u) | inr v ↦ inr v ])
  only_says {g = g} {at = at} (b_loop {g1 = g1} {ps = ps} a) h x y =
      let f = new_facts g at h.above h.below in
      let fa = frame a (fresh_head f) in
      elim (only_says a (fresh_head f) x (shown_edged x (looped_facts (heads Normal ps) g1 (next_number g) (of_heads Normal fa.waiting)) y)) [ inl u ↦ inl (shown_fresh x f u) | inr v ↦ inr v ]
  only_says (b_finally a b) h x y = then_or (only_copies b _ (frame a h).waiting x y) (λ z. only_says a h x z)
  only_says (b_same a to from) h x y = only_says a h x y
  only_says (b_recode a) h x y = more (only_says a h x y) inl
  only_says (b_never {b = b} {g1 = g1} a) h x y = elim (shown_apart x (apart_facts g1 (labels_of b)) y) [
    | inl z ↦ elim (only_says a h x z) [ inl u ↦ inl u | inr v ↦ inr (inl v) ]
    | inr m ↦ inr (inr (labels_says b x m))
  ]

  pub only_copies : {k : Control} {ps : List Pending} {g : List Segment} {g' : List Segment} {qs : List Pending} → Copied k ps g g' qs → (v : Bool) → Waiting g ps v → (x : Label) → Shown g' x → Shown g x ⊎ Says k x
  only_copies c_done v w x y = inl y
  only_copies {g = g} (c_more {p = p} {ps = ps} b c) v w x y =
      let i = mid_join g p.completion (p ∷ ps) v p.head (heads p.completion ps) w (heads_first p ps) in
      let f = fresh_facts g (heads p.completion (p ∷ ps)) (some_reachable g (heads p.completion (p ∷ ps))) (of_heads p.completion w) in
      elim (only_copies c v (wait_on w i (frame b i.head)) x y) [
        | inl z ↦ elim (only_says b i.head x z) [ inl u ↦ inl (shown_fresh x f u) | inr s ↦ inr s ]
        | inr s ↦ inr s
      ]

mutual
  pub all_says : {k : Control} {g : List Segment} {at : ℕ} {g' : List Segment} {ps : List Pending} → Built k g at g' ps → Head g at → (x : Label) → Says k x → Shown g' x
  all_says {g = g} {at = at} (b_emit {l = l}) h x y =
      let f = labelled_facts g at l (is_of h.above h.below) in
      (at, subst (λ r. Has r.labels x) (sym f.here) (subst (λ n. Has ((segment_at g at).labels ++ l ∷ []) n) y (has_last (segment_at g at).labels l)))
  all_says b_exit h x y = absurd y
  all_says (b_catch {c = c} {ps = ps} a q b) h x (inl y) =
      let w = (frame a h).waiting in
      shown_ext x (ext_trans (goes_of {c = c} {ps = ps} q w).ext (ext b (mid_of {c = c} {ps = ps} q w).head)) (all_says a h x y)
  all_says (b_catch {c = c} {ps = ps} a q b) h x (inr y) = all_says b (mid_of {c = c} {ps = ps} q (frame a h).waiting).head x y
  all_says (b_dead {c = c} {ps = ps} a q b) h x (inl y) = shown_ext x (ext_trans (goes_never {c = c} {ps = ps} q).ext (ext b (mid_never {c = c} {ps = ps} q).head)) (all_says a h x y)
  all_says (b_dead {c = c} {ps = ps} a q b) h x (inr y) = all_says b (mid_never {c = c} {ps = ps} q).head x y
  all_says {g = g} {at = at} (b_choice {g1 = g1} a b) h x y =
      let l = h.below in
      let f = new_facts g at h.above l in
      let fa = (frame_new h.above l (frame a (fresh_head f))).0 in
      let l1 = fa.grows in
      let lt1 : at < next_number g1 = omega arith in
      let f' = new_facts g1 at h.above lt1 in
      elim y [
        | inl z ↦ shown_ext x (ext_trans (ext_fresh f') (ext b (fresh_head f'))) (all_says a (fresh_head f) x z)
        | inr z ↦ all_says b (fresh_head f') x z
      ]
  all_says {g = g} {at = at} (b_loop {g1 = g1} {ps = ps} a) h x y =
      let f = new_facts g at h.above h.below in
      let fa = frame a (fresh_head f) in
      shown_ext x (ext_edged (looped_facts (heads Normal ps) g1 (next_number g) (of_heads Normal fa.waiting))) (all_says a (fresh_head f) x y)
  all_says (b_finally a b) h x (inl y) = shown_ext x (ext_copies b _ (frame a h).waiting) (all_says a h x y)
  all_says (b_finally a b) h x (inr y) = first_says b _ (frame a h).waiting x y
  all_says (b_same a to from) h x y = all_says a h x y
  all_says (b_recode a) h x (inl y) = all_says a h x y
  all_says (b_recode a) h x (inr y) = absurd y
  all_says (b_never {b = b} {g1 = g1} a) h x (inl y) = shown_ext x (ext_apart (apart_facts g1 (labels_of b))) (all_says a h x y)
  all_says (b_never {b = b} {g1 = g1} a) h x (inr y) =
      (next_number g1, subst (λ r. Has r.labels x) (sym (apart_facts g1 (labels_of b)).made) (says_labels b x y))

  pub first_says : {k : Control} {p : Pending} {ps : List Pending} {g : List Segment} {g' : List Segment} {qs : List Pending} → Copied k (p ∷ ps) g g' qs → (v : Bool) → Waiting g (p ∷ ps) v → (x : Label) → Says k x → Shown g' x
  first_says {p = p} {ps = ps} {g = g} (c_more b c) v w x y =
      let i = mid_join g p.completion (p ∷ ps) v p.head (heads p.completion ps) w (heads_first p ps) in
      shown_ext x (ext_copies c v (wait_on w i (frame b i.head))) (all_says b i.head x y)
