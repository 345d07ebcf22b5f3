-- What is built for a skeleton changes its own head and new segments alone.
use Rattle.std.proofs.Common.{◌≡◌, ◌≢◌, ℕ, ◌<◌, ◌≤◌, List, [], ◌∷◌, ◌++◌, ◌⊎◌, inl, inr, Bool, true, false, ◌||◌, cond, refl, sym, ◌∙◌, ap, subst, arith}
use Rattle.std.proofs.lemmas.Bool.{cases_eq}
use Rattle.es_fork.specs.declared.segment.Segment.{Segment}
use Rattle.es_fork.specs.declared.segment.Label.{Label}
use Rattle.es_fork.specs.Graphs.{segment_at, Has, IsOf}
use Rattle.es_skeleton.specs.declared.completion.Completion.{Completion}
use Rattle.es_skeleton.specs.declared.completion.Completion.TheVariants.{Normal}
use Rattle.es_skeleton.specs.declared.pending.Pending.{Pending}
use Rattle.es_skeleton.specs.Controls.{Control}
use Rattle.es_skeleton.specs.Pendings.{Waits, heads, others, recoded}
use Rattle.es_skeleton.specs.Steps.{next_number, some_reachable, looped, led, new_next, join, unreachable, GoesOn, joined, alone, never}
use Rattle.es_skeleton.specs.Built.{Head, Waiting, at_head, labels_of, Built, b_emit, b_exit, b_catch, b_dead, b_choice, b_loop, b_finally, b_never, b_same, b_recode, Copied, c_done, c_more}
use Rattle.es_skeleton.proofs.CompletionsLemmas.{same-self}
use Rattle.es_skeleton.proofs.PendingsLemmas.{recoded-waits, waits_either, heads-waits, others-waits}
use Rattle.es_skeleton.proofs.StepsLemmas.{Labelled, labelled_facts, looped_facts, Fresh, fresh_facts, new_facts, apart_facts, is_of}

-- What is built for a skeleton changes its own head and new segments alone.

pub record Frame (g : List Segment) (at : ℕ) (g' : List Segment) (ps : List Pending) : Type 0 where
  pub grows : next_number g ≤ next_number g'
  pub same : (x : ℕ) → x < next_number g → x ≢ at → segment_at g' x ≡ segment_at g x
  pub live : (x : ℕ) → x < next_number g → (segment_at g' x).reachable ≡ (segment_at g x).reachable
  pub place : (c : Completion) (h : ℕ) → Waits ps c h → (h ≡ at) ⊎ (next_number g ≤ h)
  pub waiting : Waiting g' ps (segment_at g at).reachable

-- from the heads in g that wait with c, the code goes on at the one head `at` of m
pub record Mid (g : List Segment) (c : Completion) (ps : List Pending) (m : List Segment) (at : ℕ) (v : Bool) : Type 0 where
  pub grows : next_number g ≤ next_number m
  pub same : (x : ℕ) → x < next_number g → (Waits ps c x → ⊥) → segment_at m x ≡ segment_at g x
  pub labels : (x : ℕ) → x < next_number g → (segment_at m x).labels ≡ (segment_at g x).labels
  pub live : (x : ℕ) → x < next_number g → (segment_at m x).reachable ≡ (segment_at g x).reachable
  pub place : Waits ps c at ⊎ (next_number g ≤ at)
  pub head : Head m at
  pub lives : (segment_at m at).reachable ≡ v

nil_has : (xs : List ℕ) (y : ℕ) → xs ≡ [] → Has xs y → ⊥
nil_has xs y e h = subst (λ l. Has l y) e h

live_or : (v w : Bool) → (w ≡ v) ⊎ (w ≡ false) → (v || w) ≡ v
live_or true w h = refl
live_or false w (inl e) = e
live_or false w (inr e) = e

some_reachable_rest : (g : List Segment) (hs : List ℕ) (v : Bool) → ((h : ℕ) → Has hs h → (segment_at g h).reachable ≡ v) → (some_reachable g hs ≡ v) ⊎ (some_reachable g hs ≡ false)
some_reachable_rest g [] v all = inr refl
some_reachable_rest g (h ∷ hs) v all =
    inl (ap (λ b. b || some_reachable g hs) (all h (inl refl)) ∙ live_or v (some_reachable g hs) (some_reachable_rest g hs v (λ k m. all k (inr m))))

pub some_reachable_all : (g : List Segment) (h : ℕ) (hs : List ℕ) (v : Bool) → ((k : ℕ) → Has (h ∷ hs) k → (segment_at g k).reachable ≡ v) → some_reachable g (h ∷ hs) ≡ v
some_reachable_all g h hs v all = ap (λ b. b || some_reachable g hs) (all h (inl refl)) ∙ live_or v (some_reachable g hs) (some_reachable_rest g hs v (λ k m. all k (inr m)))

-- the heads that wait are of the graph
pub of_heads : {g : List Segment} {ps : List Pending} {v : Bool} (c : Completion) → Waiting g ps v → (h : ℕ) → Has (heads c ps) h → IsOf g h
of_heads {ps = ps} c w h m = let z = heads-waits c ps h m in is_of (w.above c h z) (w.below c h z)

-- a new segment is a head
pub fresh_head : {g : List Segment} {hs : List ℕ} {b : Bool} {m : List Segment} → Fresh g hs b m → Head m (next_number g)
fresh_head f = record { above = omega arith; below = let n = f.len in omega arith; open_at = ap (λ r. r.next) f.made }

-- going on in a new segment
pub mid_fresh : (g : List Segment) (c : Completion) (ps : List Pending) (v b : Bool) → ((h : ℕ) → Has (heads c ps) h → IsOf g h) → b ≡ v → Mid g c ps (led g (heads c ps) b) (next_number g) v
mid_fresh g c ps v b w e =
    let f : Fresh g (heads c ps) b (led g (heads c ps) b) = fresh_facts g (heads c ps) b w in
    record {
      grows = let n = f.len in omega arith;
      same = λ x lt no. f.rest x lt (λ m. no (heads-waits c ps x m));
      labels = f.labels;
      live = f.live;
      place = inr (omega arith);
      head = fresh_head f;
      lives = ap (λ r. r.reachable) f.made ∙ e;
    }

pub mid_join : (g : List Segment) (c : Completion) (ps : List Pending) (v : Bool) (h : ℕ) (hs : List ℕ) → Waiting g ps v → heads c ps ≡ h ∷ hs → Mid g c ps (join g (heads c ps)) (next_number g) v
mid_join g c ps v h hs w e =
    mid_fresh g c ps v (some_reachable g (heads c ps)) (of_heads c w)
    (ap (some_reachable g) e ∙ some_reachable_all g h hs v (λ k m. w.lives c k (heads-waits c ps k (subst (λ l. Has l k) (sym e) m))))

pub mid_dead : (g : List Segment) (c : Completion) (ps : List Pending) → heads c ps ≡ [] → Mid g c ps (unreachable g) (next_number g) false
mid_dead g c ps e = subst (λ hs. Mid g c ps (led g hs false) (next_number g) false) e
    (mid_fresh g c ps false false (λ h m. absurd (nil_has (heads c ps) h e m)) refl)

pub mid_on : (g : List Segment) (c : Completion) (ps : List Pending) (v : Bool) (h : ℕ) → Waiting g ps v → heads c ps ≡ h ∷ [] → Mid g c ps g h v
mid_on g c ps v h w e =
    let at : Waits ps c h = heads-waits c ps h (subst (λ l. Has l h) (sym e) (inl refl)) in
    record {
      grows = omega arith;
      same = λ x lt no. refl;
      labels = λ x lt. refl;
      live = λ x lt. refl;
      place = inl at;
      head = record { above = w.above c h at; below = w.below c h at; open_at = w.open_at c h at };
      lives = w.lives c h at;
    }

pub mid_of : {c : Completion} {ps : List Pending} {g m : List Segment} {h : ℕ} {v : Bool} → GoesOn (heads c ps) g m h true → Waiting g ps v → Mid g c ps m h v
mid_of {c} {ps} {g} (joined {h} {rest} e) w = mid_join g c ps _ h rest w e
mid_of {c} {ps} {g} (alone {h} e) w = mid_on g c ps _ h w e

pub mid_never : {c : Completion} {ps : List Pending} {g m : List Segment} {h : ℕ} → GoesOn (heads c ps) g m h false → Mid g c ps m h false
mid_never {c} {ps} {g} (never e) = mid_dead g c ps e

-- the part that goes on leaves the other heads as they are
pub others_wait : {g : List Segment} {c : Completion} {ps : List Pending} {m : List Segment} {at : ℕ} {v u : Bool} {g2 : List Segment} {qs : List Pending} →
    Waiting g ps v → Mid g c ps m at u → Frame m at g2 qs → (d : Completion) (h : ℕ) → Waits ps d h → d ≢ c → (h < next_number g2) × (segment_at g2 h ≡ segment_at g h)
others_wait {c = c} {at = at} w m f d h q n =
    let lt = w.below d h q in
    let l1 = m.grows in
    let l2 = f.grows in
    let not_c : Waits _ c h → ⊥ = λ z. n (w.one d c h q z) in
    let not_at : h ≢ at = λ e. elim m.place [ inl z ↦ not_c (subst (Waits _ c) (sym e) z) | inr le ↦ absurd (omega arith) ] in
    (omega arith, f.same h (omega arith) not_at ∙ m.same h lt not_c)

-- heads that stay as they are go on waiting
pub wait_same : {g : List Segment} {ps : List Pending} {v : Bool} (g2 : List Segment) (rs : List Pending) → Waiting g ps v →
    ((d : Completion) (h : ℕ) → Waits rs d h → Waits ps d h × (h < next_number g2) × (segment_at g2 h ≡ segment_at g h)) → Waiting g2 rs v
wait_same g2 rs w o = record {
  above = λ d h q. w.above d h (o d h q).0;
  below = λ d h q. (o d h q).1;
  open_at = λ d h q. ap (λ s. s.next) (o d h q).2 ∙ w.open_at d h (o d h q).0;
  lives = λ d h q. ap (λ s. s.reachable) (o d h q).2 ∙ w.lives d h (o d h q).0;
  one = λ d k h q z. w.one d k h (o d h q).0 (o k h z).0;
}

pub wait_on : {g : List Segment} {c : Completion} {ps : List Pending} {m : List Segment} {at : ℕ} {v u : Bool} {g2 : List Segment} {qs : List Pending} →
    Waiting g ps v → Mid g c ps m at u → Frame m at g2 qs → Waiting g2 (others c ps) v
wait_on {c = c} {ps = ps} {g2 = g2} w m f =
    wait_same g2 (others c ps) w (λ d h q. let r = others-waits c ps d h q in let o = others_wait w m f d h r.0 r.1 in (r.0, o.0, o.1))

-- two groups of heads, the second in places that the first does not have
pub wait_both : {g : List Segment} {ps qs : List Pending} {v : Bool} → Waiting g ps v → Waiting g qs v → ((c d : Completion) (h : ℕ) → Waits ps c h → Waits qs d h → ⊥) → Waiting g (ps ++ qs) v
wait_both {ps = ps} {qs = qs} a b apart = record {
  above = λ c h w. elim (waits_either ps qs c h w) [ inl x ↦ a.above c h x | inr y ↦ b.above c h y ];
  below = λ c h w. elim (waits_either ps qs c h w) [ inl x ↦ a.below c h x | inr y ↦ b.below c h y ];
  open_at = λ c h w. elim (waits_either ps qs c h w) [ inl x ↦ a.open_at c h x | inr y ↦ b.open_at c h y ];
  lives = λ c h w. elim (waits_either ps qs c h w) [ inl x ↦ a.lives c h x | inr y ↦ b.lives c h y ];
  one = λ c d h w z. elim (waits_either ps qs c h w) [
    | inl x ↦ elim (waits_either ps qs d h z) [ inl x' ↦ a.one c d h x x' | inr y' ↦ absurd (apart c d h x y') ]
    | inr y ↦ elim (waits_either ps qs d h z) [ inl x' ↦ absurd (apart d c h x' y) | inr y' ↦ b.one c d h y y' ]
  ];
}

pub wait_recoded : {g : List Segment} {qs : List Pending} {v : Bool} (o c : Completion) → Waiting g qs v → Waiting g (recoded o c qs) v
wait_recoded {qs = qs} o c a = record {
  above = λ d h w. elim (recoded-waits o c qs d h w) [ inl x ↦ a.above o h x.0 | inr y ↦ a.above d h y.0 ];
  below = λ d h w. elim (recoded-waits o c qs d h w) [ inl x ↦ a.below o h x.0 | inr y ↦ a.below d h y.0 ];
  open_at = λ d h w. elim (recoded-waits o c qs d h w) [ inl x ↦ a.open_at o h x.0 | inr y ↦ a.open_at d h y.0 ];
  lives = λ d h w. elim (recoded-waits o c qs d h w) [ inl x ↦ a.lives o h x.0 | inr y ↦ a.lives d h y.0 ];
  one = λ d k h w z. elim (recoded-waits o c qs d h w) [
    | inl x ↦ elim (recoded-waits o c qs k h z) [ inl x' ↦ x.1 ∙ sym x'.1 | inr y' ↦ absurd (y'.1 (a.one k o h y'.0 x.0)) ]
    | inr y ↦ elim (recoded-waits o c qs k h z) [ inl x' ↦ absurd (y.1 (a.one d o h y.0 x'.0)) | inr y' ↦ a.one d k h y.0 y'.0 ]
  ];
}

-- the same heads under another name for v
wait_as : {g : List Segment} {qs : List Pending} {v w : Bool} → v ≡ w → Waiting g qs v → Waiting g qs w
wait_as {g} {qs} e a = subst (Waiting g qs) e a

no_heads : (g : List Segment) (v : Bool) → Waiting g [] v
no_heads g v = record { above = λ c h w. absurd w; below = λ c h w. absurd w; open_at = λ c h w. absurd w; lives = λ c h w. absurd w; one = λ c d h w z. absurd w }

one_head : (g : List Segment) (c : Completion) (at : ℕ) (v : Bool) → Head g at → (segment_at g at).reachable ≡ v → Waiting g (at_head c at ∷ []) v
one_head g c at v k e = record {
  above = λ d h w. elim w [ inl x ↦ subst (λ n. 1 ≤ n) x.1 k.above | inr n ↦ absurd n ];
  below = λ d h w. elim w [ inl x ↦ subst (λ n. n < next_number g) x.1 k.below | inr n ↦ absurd n ];
  open_at = λ d h w. elim w [ inl x ↦ subst (λ n. (segment_at g n).next ≡ []) x.1 k.open_at | inr n ↦ absurd n ];
  lives = λ d h w. elim w [ inl x ↦ subst (λ n. (segment_at g n).reachable ≡ v) x.1 e | inr n ↦ absurd n ];
  one = λ d i h w z. elim w [ inl x ↦ elim z [ inl y ↦ sym x.0 ∙ y.0 | inr n ↦ absurd n ] | inr n ↦ absurd n ];
}

-- what a finalizer's copies change
pub record CopyFrame (g : List Segment) (ps : List Pending) (g' : List Segment) (qs : List Pending) (v : Bool) : Type 0 where
  pub grows : next_number g ≤ next_number g'
  pub same : (x : ℕ) → x < next_number g → ((c : Completion) → Waits ps c x → ⊥) → segment_at g' x ≡ segment_at g x
  pub labels : (x : ℕ) → x < next_number g → (segment_at g' x).labels ≡ (segment_at g x).labels
  pub live : (x : ℕ) → x < next_number g → (segment_at g' x).reachable ≡ (segment_at g x).reachable
  pub place : (c : Completion) (h : ℕ) → Waits qs c h → next_number g ≤ h
  pub waiting : Waiting g' qs v

-- the other heads, after a second part
pub frame_rest : {g : List Segment} {at : ℕ} {g1 : List Segment} {c : Completion} {ps : List Pending} {m : List Segment} {k : ℕ} {u : Bool} {g2 : List Segment} {qs : List Pending} →
    at < next_number g → Frame g at g1 ps → Mid g1 c ps m k u → Frame m k g2 qs → Frame g at g2 (others c ps)
frame_rest {g} {at} {g1} {c} {ps} {m} {k} {u} {g2} {qs} below a i b =
    let l1 = a.grows in
    let l2 = i.grows in
    let l3 = b.grows in
    record {
      grows = omega arith;
      same = λ x lt n.
          let not_c : Waits ps c x → ⊥ = λ w. elim (a.place c x w) [ inl e ↦ n e | inr le ↦ absurd (omega arith) ] in
          let not_k : x ≢ k = λ e. elim i.place [ inl w ↦ not_c (subst (Waits ps c) (sym e) w) | inr le ↦ absurd (omega arith) ] in
          b.same x (omega arith) not_k ∙ i.same x (omega arith) not_c ∙ a.same x lt n;
      live = λ x lt. b.live x (omega arith) ∙ i.live x (omega arith) ∙ a.live x lt;
      place = λ d h w. a.place d h (others-waits c ps d h w).0;
      waiting = wait_on a.waiting i b;
    }

pub frame_seq : {g : List Segment} {at : ℕ} {g1 : List Segment} {c : Completion} {ps : List Pending} {m : List Segment} {k : ℕ} {g2 : List Segment} {qs : List Pending} →
    at < next_number g → Frame g at g1 ps → Mid g1 c ps m k (segment_at g at).reachable → Frame m k g2 qs → Frame g at g2 (others c ps ++ qs)
frame_seq {g} {at} {g1} {c} {ps} {m} {k} {g2} {qs} below a i b =
    let r0 = frame_rest below a i b in
    let l1 = a.grows in
    let l2 = i.grows in
    let l3 = b.grows in
    record {
      grows = r0.grows;
      same = r0.same;
      live = r0.live;
      place = λ d h w. elim (waits_either (others c ps) qs d h w) [
        | inl x ↦ r0.place d h x
        | inr y ↦ elim (b.place d h y) [
          | inl e ↦ elim i.place [ inl z ↦ a.place c h (subst (Waits ps c) (sym e) z) | inr le ↦ inr (omega arith) ]
          | inr le ↦ inr (omega arith)
        ]
      ];
      waiting = wait_both r0.waiting (wait_as i.lives b.waiting) (λ d e h x y.
          let r = others-waits c ps d h x in
          let lt = a.waiting.below d h r.0 in
          elim (b.place e h y) [
            | inl q ↦ elim i.place [ inl z ↦ r.1 (a.waiting.one d c h r.0 (subst (Waits ps c) (sym q) z)) | inr le ↦ absurd (omega arith) ]
            | inr le ↦ absurd (omega arith)
          ]);
    }

-- a part that begins in a new segment after `at`
pub frame_new : {g : List Segment} {at : ℕ} {g1 : List Segment} {ps : List Pending} → 1 ≤ at → at < next_number g → Frame (new_next g at) (next_number g) g1 ps →
    Frame g at g1 ps × ((c : Completion) (h : ℕ) → Waits ps c h → next_number g ≤ h)
frame_new {g} {at} {g1} {ps} ab lt a =
    let f = new_facts g at ab lt in
    let n = f.len in
    let l = a.grows in
    let far : (c : Completion) (h : ℕ) → Waits ps c h → next_number g ≤ h = λ c h w. elim (a.place c h w) [ inl e ↦ omega arith | inr le ↦ omega arith ] in (
      record {
        grows = omega arith;
        same = λ x le no. a.same x (omega arith) (omega arith) ∙ f.rest x le (λ m. elim m [ inl e ↦ no (sym e) | inr z ↦ z ]);
        live = λ x le. a.live x (omega arith) ∙ f.live x le;
        place = λ c h w. inr (far c h w);
        waiting = wait_as (ap (λ r. r.reachable) f.made) a.waiting;
      },
      far,
    )

pub frame_choice : {g : List Segment} {at : ℕ} {g1 : List Segment} {ps : List Pending} {g2 : List Segment} {qs : List Pending} → at < next_number g →
    Frame g at g1 ps → ((c : Completion) (h : ℕ) → Waits ps c h → next_number g ≤ h) → Frame g1 at g2 qs → ((c : Completion) (h : ℕ) → Waits qs c h → next_number g1 ≤ h) → Frame g at g2 (ps ++ qs)
frame_choice {g} {at} {g1} {ps} {g2} {qs} lt a fa b fb =
    let l1 = a.grows in
    let l2 = b.grows in
    record {
      grows = omega arith;
      same = λ x le no. b.same x (omega arith) no ∙ a.same x le no;
      live = λ x le. b.live x (omega arith) ∙ a.live x le;
      place = λ c h w. elim (waits_either ps qs c h w) [ inl x ↦ inr (fa c h x) | inr y ↦ let z = fb c h y in inr (omega arith) ];
      waiting = wait_both
          (wait_same g2 ps a.waiting (λ d h q. let z = fa d h q in let y = a.waiting.below d h q in (q, omega arith, b.same h y (omega arith))))
          (wait_as (a.live at lt) b.waiting)
          (λ c d h x y. let u = a.waiting.below c h x in let v = fb d h y in omega arith);
    }

pub frame_loop : {g : List Segment} {at : ℕ} {g1 : List Segment} {ps : List Pending} → at < next_number g → Frame g at g1 ps → ((c : Completion) (h : ℕ) → Waits ps c h → next_number g ≤ h) →
    Frame g at (looped g1 (heads Normal ps) (next_number g)) (others Normal ps)
frame_loop {g} {at} {g1} {ps} lt a fa =
    let f = looped_facts (heads Normal ps) g1 (next_number g) (of_heads Normal a.waiting) in
    let l1 = a.grows in
    let n = f.len in
    record {
      grows = omega arith;
      same = λ x le no. f.rest x (λ m. let z = fa Normal x (heads-waits Normal ps x m) in omega arith) ∙ a.same x le no;
      live = λ x le. f.live x ∙ a.live x le;
      place = λ c h w. inr (fa c h (others-waits Normal ps c h w).0);
      waiting = wait_same _ (others Normal ps) a.waiting (λ d h q.
          let r = others-waits Normal ps d h q in
          let z = a.waiting.below d h r.0 in
          (r.0, omega arith, f.rest h (λ m. r.1 (a.waiting.one d Normal h r.0 (heads-waits Normal ps h m)))));
    }

pub frame_copied : {g : List Segment} {at : ℕ} {g1 : List Segment} {ps : List Pending} {g2 : List Segment} {qs : List Pending} → at < next_number g →
    Frame g at g1 ps → CopyFrame g1 ps g2 qs (segment_at g at).reachable → Frame g at g2 qs
frame_copied {g} {at} {g1} {ps} lt a b =
    let l1 = a.grows in
    let l2 = b.grows in
    record {
      grows = omega arith;
      same = λ x le no. b.same x (omega arith) (λ c w. elim (a.place c x w) [ inl e ↦ no e | inr q ↦ absurd (omega arith) ]) ∙ a.same x le no;
      live = λ x le. b.live x (omega arith) ∙ a.live x le;
      place = λ c h w. let z = b.place c h w in inr (omega arith);
      waiting = b.waiting;
    }

pub copied_more : {g : List Segment} {c : Completion} {ps : List Pending} {m : List Segment} {at : ℕ} {v : Bool} {g1 : List Segment} {qs : List Pending} {g2 : List Segment} {rs : List Pending} →
    next_number g ≤ at → Waiting g ps v → Mid g c ps m at v → Frame m at g1 qs → CopyFrame g1 (others c ps) g2 rs v → CopyFrame g ps g2 (recoded Normal c qs ++ rs) v
copied_more {g} {c} {ps} {m} {at} {v} {g1} {qs} {g2} {rs} past w i b k =
    let l1 = i.grows in
    let l2 = b.grows in
    let l3 = k.grows in
    let far : (d : Completion) (h : ℕ) → Waits qs d h → next_number g ≤ h = λ d h z. elim (b.place d h z) [ inl e ↦ omega arith | inr le ↦ omega arith ] in
    let far' : (d : Completion) (h : ℕ) → Waits (recoded Normal c qs) d h → (next_number g ≤ h) × (h < next_number g1) =
    λ d h z. elim (recoded-waits Normal c qs d h z) [ inl x ↦ (far Normal h x.0, b.waiting.below Normal h x.0) | inr y ↦ (far d h y.0, b.waiting.below d h y.0) ] in
    let free : (h : ℕ) → next_number g ≤ h → (d : Completion) → Waits (others c ps) d h → ⊥ =
    λ h le d z. let y = w.below d h (others-waits c ps d h z).0 in omega arith in
    record {
      grows = omega arith;
      same = λ x lt no. k.same x (omega arith) (λ d z. no d (others-waits c ps d x z).0) ∙ b.same x (omega arith) (omega arith) ∙ i.same x lt (no c);
      labels = λ x lt. k.labels x (omega arith) ∙ ap (λ r. r.labels) (b.same x (omega arith) (omega arith)) ∙ i.labels x lt;
      live = λ x lt. k.live x (omega arith) ∙ b.live x (omega arith) ∙ i.live x lt;
      place = λ d h z. elim (waits_either (recoded Normal c qs) rs d h z) [ inl x ↦ (far' d h x).0 | inr y ↦ let q = k.place d h y in omega arith ];
      waiting = wait_both
          (wait_same g2 (recoded Normal c qs) (wait_recoded Normal c (wait_as i.lives b.waiting)) (λ d h z.
          let f = far' d h z in let f0 = f.0 in let f1 = f.1 in (z, omega arith, k.same h f1 (free h f0))))
          k.waiting
          (λ d e h x y. let f1 = (far' d h x).1 in let q = k.place e h y in omega arith);
    }

pub labelled_live : {g : List Segment} {s : ℕ} {l : Label} {g' : List Segment} → Labelled g s l g' → (x : ℕ) → (segment_at g' x).reachable ≡ (segment_at g x).reachable
labelled_live {g} {s} {l} {g'} f x = elim (cases_eq x s) [
  | inl e ↦ subst (λ k. (segment_at g' k).reachable ≡ (segment_at g k).reachable) (sym e) (ap (λ r. r.reachable) f.here)
  | inr n ↦ ap (λ r. r.reachable) (f.rest x n)
]

pub heads_first : (p : Pending) (ps : List Pending) → heads p.completion (p ∷ ps) ≡ p.head ∷ heads p.completion ps
heads_first p ps = ap (λ b. cond b (p.head ∷ heads p.completion ps) (heads p.completion ps)) (same-self p.completion)

mutual
  pub frame : {k : Control} {g : List Segment} {at : ℕ} {g' : List Segment} {ps : List Pending} → Built k g at g' ps → Head g at → Frame g at g' ps
  frame {g = g} {at = at} (b_emit {l = l}) h =
      let f = labelled_facts g at l (is_of h.above h.below) in
      let n = f.len in
      record {
        grows = omega arith;
        same = λ x lt n. f.rest x n;
        live = λ x lt. labelled_live f x;
        place = λ d x w. elim w [ inl e ↦ inl (sym e.1) | inr n ↦ absurd n ];
        waiting = one_head _ Normal at _ (record { above = h.above; below = let b = h.below in omega arith; open_at = ap (λ r. r.next) f.here ∙ h.open_at }) (ap (λ r. r.reachable) f.here);
      }
  frame {g = g} {at = at} (b_exit {c = c}) h = record {
    grows = omega arith;
    same = λ x lt n. refl;
    live = λ x lt. refl;
    place = λ d x w. elim w [ inl e ↦ inl (sym e.1) | inr n ↦ absurd n ];
    waiting = one_head g c at _ h refl;
  }
  frame (b_catch a e b) h =
      let fa = frame a h in
      let i = mid_of e fa.waiting in
      frame_seq h.below fa i (frame b i.head)
  frame (b_dead a e b) h =
      let fa = frame a h in
      let i = mid_never e in
      frame_rest h.below fa i (frame b i.head)
  frame {at = at} (b_choice {g1 = g1} a b) h =
      let l = h.below in
      let ab = h.above in
      let a' = frame_new ab l (frame a (fresh_head (new_facts _ at ab l))) in
      let l1 = a'.0.grows in
      let b' = frame_new ab (omega arith) (frame b (fresh_head (new_facts g1 at ab (omega arith)))) in
      frame_choice l a'.0 a'.1 b'.0 b'.1
  frame {at = at} (b_loop a) h =
      let a' = frame_new h.above h.below (frame a (fresh_head (new_facts _ at h.above h.below))) in
      frame_loop h.below a'.0 a'.1
  frame (b_finally a b) h =
      let fa = frame a h in
      frame_copied h.below fa (copied b _ fa.waiting)
  frame (b_recode {c = o} {d = c} {ps = ps} a) h =
      let fa = frame a h in
      record {
        grows = fa.grows;
        same = fa.same;
        live = fa.live;
        place = λ d j w. elim (recoded-waits o c ps d j w) [ inl x ↦ fa.place o j x.0 | inr y ↦ fa.place d j y.0 ];
        waiting = wait_recoded o c fa.waiting;
      }
  frame (b_same {qs = qs} a to from) h =
      let fa = frame a h in
      record {
        grows = fa.grows;
        same = fa.same;
        live = fa.live;
        place = λ c j w. fa.place c j (to c j w);
        waiting = wait_same _ qs fa.waiting (λ c j w. let z = to c j w in (z, fa.waiting.below c j z, refl));
      }
  frame (b_never {b = b} {g1 = g1} a) h =
      let fa = frame a h in
      let l = fa.grows in
      let k = apart_facts g1 (labels_of b) in
      let n = k.len in
      record {
        grows = omega arith;
        same = λ x lt ne. k.old x (omega arith) ∙ fa.same x lt ne;
        live = λ x lt. ap (λ r. r.reachable) (k.old x (omega arith)) ∙ fa.live x lt;
        place = λ c j w. absurd w;
        waiting = no_heads _ _;
      }

  pub copied : {k : Control} {ps : List Pending} {g : List Segment} {g' : List Segment} {qs : List Pending} → Copied k ps g g' qs → (v : Bool) → Waiting g ps v → CopyFrame g ps g' qs v
  copied {g = g} c_done v w = record { grows = omega arith; same = λ x lt no. refl; labels = λ x lt. refl; live = λ x lt. refl; place = λ c h z. absurd z; waiting = w }
  copied {g = g} (c_more {p = p} {ps = ps} b c) v w =
      let i = mid_join g p.completion (p ∷ ps) v p.head (heads p.completion ps) w (heads_first p ps) in
      let fb = frame b i.head in
      copied_more (omega arith) w i fb (copied c v (wait_on w i fb))
