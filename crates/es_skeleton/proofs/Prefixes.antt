-- A run can be cut off at each trace on its way.
use Rattle.std.proofs.Common.{◌≡◌, List, [], ◌∷◌, ◌++◌, ◌⊎◌, inl, inr, refl, sym, ◌∙◌, ap, subst, append_assoc, append-nil}
use Rattle.es_skeleton.specs.Controls.{Control, Emit}
use Rattle.es_fork.specs.declared.segment.Label.{Label}
use Rattle.es_skeleton.specs.declared.completion.Completion.{Completion}
use Rattle.es_skeleton.proofs.RunsAfter.{Run, emit, exit, caught, passed, left, right, again, leave, kept, replaced, Part, none, emitted, in_catch, after_catch, in_left, in_right, in_loop, after_turn, in_body, in_final}

abbrev pub Prefix : List Label → List Label → Type 0
Prefix t u = (x : List Label) × (u ≡ t ++ x)

prefix_trans : (t u v : List Label) → Prefix t u → Prefix u v → Prefix t v
prefix_trans t u v p q = (p.0 ++ q.0, q.1 ∙ ap (λ l. l ++ q.0) p.1 ∙ append_assoc t p.0 q.0)

prefix_refl : (t : List Label) → Prefix t t
prefix_refl t = ([], sym (append-nil t))

compare_by : (v s x y : List Label) → v ++ x ≡ s ++ y → Prefix v s ⊎ Prefix s v
compare_by [] s x y e = inl (s, refl)
compare_by (a ∷ v) [] x y e = inr (a ∷ v, refl)
compare_by (a ∷ v) (b ∷ s) x y e =
    let tails : v ++ x ≡ s ++ y = cc in
    let same : a ≡ b = cc in
    elim (compare_by v s x y tails) [ inl p ↦ inl (p.0, let q = p.1 in cc) | inr p ↦ inr (p.0, let q = p.1 in cc) ]

compare : (v s u : List Label) → Prefix v u → Prefix s u → Prefix v s ⊎ Prefix s v
compare v s u p q = compare_by v s p.0 q.0 (sym p.1 ∙ q.1)

cancel : (t x y : List Label) → t ++ x ≡ t ++ y → x ≡ y
cancel [] x y e = e
cancel (a ∷ t) x y e = cancel t x y cc

nil_left : (x y : List Label) → [] ≡ x ++ y → x ≡ []
nil_left [] y e = refl
nil_left (a ∷ x) y e = cc

one_left : (l : Label) (x y : List Label) → l ∷ [] ≡ x ++ y → (x ≡ []) ⊎ (x ≡ l ∷ [])
one_left l [] y e = inl refl
one_left l (a ∷ x) y e =
    let t : [] ≡ x ++ y = cc in
    let n : x ≡ [] = nil_left x y t in
    inr cc

between : (t v z : List Label) → (p : Prefix t v) → (q : Prefix v (t ++ z)) → z ≡ p.0 ++ q.0
between t v z p q = cancel t z (p.0 ++ q.0) (q.1 ∙ ap (λ l. l ++ q.0) p.1 ∙ append_assoc t p.0 q.0)

pub run_grows : {k : Control} {t u : List Label} {c : Completion} → Run k t u c → Prefix t u
run_grows (emit {l}) = (l ∷ [], refl)
run_grows (exit {t = t}) = prefix_refl t
run_grows (caught {t = t} {u} {v} ra rb) = prefix_trans t u v (run_grows ra) (run_grows rb)
run_grows (passed ra n) = run_grows ra
run_grows (left r) = run_grows r
run_grows (right r) = run_grows r
run_grows (again {t = t} {u} {v} ra rl) = prefix_trans t u v (run_grows ra) (run_grows rl)
run_grows (leave r n) = run_grows r
run_grows (kept {t = t} {u} {v} ra rb) = prefix_trans t u v (run_grows ra) (run_grows rb)
run_grows (replaced {t = t} {u} {v} ra rb n) = prefix_trans t u v (run_grows ra) (run_grows rb)

pub part_grows : {k : Control} {t u : List Label} → Part k t u → Prefix t u
part_grows (none {t = t}) = prefix_refl t
part_grows (emitted {l}) = (l ∷ [], refl)
part_grows (in_catch p) = part_grows p
part_grows (after_catch {t = t} {u} {v} ra p) = prefix_trans t u v (run_grows ra) (part_grows p)
part_grows (in_left p) = part_grows p
part_grows (in_right p) = part_grows p
part_grows (in_loop p) = part_grows p
part_grows (after_turn {t = t} {u} {v} ra p) = prefix_trans t u v (run_grows ra) (part_grows p)
part_grows (in_body p) = part_grows p
part_grows (in_final {t = t} {u} {v} ra p) = prefix_trans t u v (run_grows ra) (part_grows p)

emit_cut : {l : Label} {t : List Label} (v : List Label) → Prefix t v → Prefix v (t ++ l ∷ []) → Part (Emit l) t v
emit_cut {l} {t} v p q = elim (one_left l p.0 q.0 (between t v (l ∷ []) p q)) [
  | inl e ↦ subst (λ s. Part (Emit l) t s) (sym (p.1 ∙ ap (λ x. t ++ x) e ∙ append-nil t)) none
  | inr e ↦ subst (λ s. Part (Emit l) t s) (sym (p.1 ∙ ap (λ x. t ++ x) e)) emitted
]

stay_cut : {k : Control} {t : List Label} (v : List Label) → Prefix t v → Prefix v t → Part k t v
stay_cut {k} {t} v p q =
    let e : p.0 ≡ [] = nil_left p.0 q.0 (between t v [] p (q.0, append-nil t ∙ q.1)) in
    subst (λ s. Part k t s) (sym (p.1 ∙ ap (λ x. t ++ x) e ∙ append-nil t)) none

pub run_cut : {k : Control} {t u : List Label} {c : Completion} → Run k t u c → (v : List Label) → Prefix t v → Prefix v u → Part k t v
run_cut emit v p q = emit_cut v p q
run_cut exit v p q = stay_cut v p q
run_cut (caught {u = s} {v = u} ra rb) v p q = elim (compare v s u q (run_grows rb)) [ inl y ↦ in_catch (run_cut ra v p y) | inr y ↦ after_catch ra (run_cut rb v y q) ]
run_cut (passed ra n) v p q = in_catch (run_cut ra v p q)
run_cut (left r) v p q = in_left (run_cut r v p q)
run_cut (right r) v p q = in_right (run_cut r v p q)
run_cut (again {u = s} {v = u} ra rl) v p q = elim (compare v s u q (run_grows rl)) [ inl y ↦ in_loop (run_cut ra v p y) | inr y ↦ after_turn ra (run_cut rl v y q) ]
run_cut (leave r n) v p q = in_loop (run_cut r v p q)
run_cut (kept {u = s} {v = u} ra rb) v p q = elim (compare v s u q (run_grows rb)) [ inl y ↦ in_body (run_cut ra v p y) | inr y ↦ in_final ra (run_cut rb v y q) ]
run_cut (replaced {u = s} {v = u} ra rb n) v p q = elim (compare v s u q (run_grows rb)) [ inl y ↦ in_body (run_cut ra v p y) | inr y ↦ in_final ra (run_cut rb v y q) ]

pub part_cut : {k : Control} {t u : List Label} → Part k t u → (v : List Label) → Prefix t v → Prefix v u → Part k t v
part_cut none v p q = stay_cut v p q
part_cut emitted v p q = emit_cut v p q
part_cut (in_catch r) v p q = in_catch (part_cut r v p q)
part_cut (after_catch {u = s} {v = u} ra rb) v p q = elim (compare v s u q (part_grows rb)) [ inl y ↦ in_catch (run_cut ra v p y) | inr y ↦ after_catch ra (part_cut rb v y q) ]
part_cut (in_left r) v p q = in_left (part_cut r v p q)
part_cut (in_right r) v p q = in_right (part_cut r v p q)
part_cut (in_loop r) v p q = in_loop (part_cut r v p q)
part_cut (after_turn {u = s} {v = u} ra rl) v p q = elim (compare v s u q (part_grows rl)) [ inl y ↦ in_loop (run_cut ra v p y) | inr y ↦ after_turn ra (part_cut rl v y q) ]
part_cut (in_body r) v p q = in_body (part_cut r v p q)
part_cut (in_final {u = s} {v = u} ra rb) v p q = elim (compare v s u q (part_grows rb)) [ inl y ↦ in_body (run_cut ra v p y) | inr y ↦ in_final ra (part_cut rb v y q) ]
