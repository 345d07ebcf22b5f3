-- The completions that wait after a part are those with which some run of its skeleton ends.
use Rattle.std.proofs.Common.{ℕ, List, [], ◌∷◌, ◌++◌, inl, inr, true, refl, sym, subst}
use Rattle.es_fork.specs.declared.segment.Segment.{Segment}
use Rattle.es_fork.specs.declared.segment.Label.{Label}
use Rattle.es_fork.specs.Graphs.{Has}
use Rattle.es_skeleton.specs.declared.completion.Completion.{Completion}
use Rattle.es_skeleton.specs.declared.completion.Completion.TheVariants.{Normal}
use Rattle.es_skeleton.specs.declared.pending.Pending.{Pending}
use Rattle.es_skeleton.specs.Controls.{Control, Emit, Exit, Catch}
use Rattle.es_skeleton.specs.Pendings.{Waits, heads, others, recoded}
use Rattle.es_skeleton.specs.Steps.{GoesOn, joined, alone}
use Rattle.es_skeleton.specs.Built.{Built, b_emit, b_exit, b_catch, b_dead, b_choice, b_loop, b_finally, b_never, b_same, b_recode, Copied, c_done, c_more}
use Rattle.es_skeleton.proofs.RunsAfter.{Run, emit, exit, caught, passed, left, right, leave}
use Rattle.es_skeleton.proofs.PendingsLemmas.{recoded-waits, waits_either, heads-waits, others-waits}
use Rattle.es_skeleton.proofs.Complete.{Outcome}
use Rattle.es_skeleton.proofs.Sound.{finally_end}

-- The exits that wait after a part are those with which some run of its skeleton ends.

-- some run ends with the exit, from each trace
abbrev pub CanEnd : Control → Completion → Type 0
CanEnd k c = (t : List Label) → (u : List Label) × Run k t u c

some_head : (c : Completion) (ps : List Pending) {g m : List Segment} {h : ℕ} → GoesOn (heads c ps) g m h true → (j : ℕ) × Waits ps c j
some_head c ps (joined {h} e) = (h, heads-waits c ps h (subst (λ l. Has l h) (sym e) (inl refl)))
some_head c ps (alone {h} e) = (h, heads-waits c ps h (subst (λ l. Has l h) (sym e) (inl refl)))

-- e comes out of a finalizer with d where c went in
abbrev pub FinalEnd : Control → List Pending → Completion → Type 0
FinalEnd b ps e = (c : Completion) × (d : Completion) × (h : ℕ) × Waits ps c h × CanEnd b d × Outcome c d e

mutual
  pub can_end : {k : Control} {g : List Segment} {at : ℕ} {g' : List Segment} {ps : List Pending} → Built k g at g' ps → (c : Completion) (h : ℕ) → Waits ps c h → CanEnd k c
  can_end (b_emit {l = l}) c h w t = elim w [ inl x ↦ (t ++ l ∷ [], subst (λ n. Run (Emit l) t (t ++ l ∷ []) n) x.0 emit) | inr n ↦ absurd n ]
  can_end (b_exit {c = c'}) c h w t = elim w [ inl x ↦ (t, subst (λ n. Run (Exit c') t t n) x.0 exit) | inr n ↦ absurd n ]
  can_end (b_catch {c = c'} {ps = ps} {qs = qs} a q b) c h w t = elim (waits_either (others c' ps) qs c h w) [
    | inl x ↦ let o = others-waits c' ps c h x in let r = can_end a c h o.0 t in (r.0, passed r.1 o.1)
    | inr y ↦
        let j = some_head c' ps q in
        let r = can_end a c' j.0 j.1 t in
        let s = can_end b c h y r.0 in
        (s.0, caught r.1 s.1)
  ]
  can_end (b_dead {c = c'} {ps = ps} a q b) c h w t = let o = others-waits c' ps c h w in let r = can_end a c h o.0 t in (r.0, passed r.1 o.1)
  can_end (b_choice {ps = ps} {qs = qs} a b) c h w t = elim (waits_either ps qs c h w) [
    | inl x ↦ let r = can_end a c h x t in (r.0, left r.1)
    | inr y ↦ let r = can_end b c h y t in (r.0, right r.1)
  ]
  can_end (b_loop {ps = ps} a) c h w t = let o = others-waits Normal ps c h w in let r = can_end a c h o.0 t in (r.0, leave r.1 o.1)
  can_end (b_finally a b) c h w t =
      let f = copies_end b c h w in
      let r = can_end a f.0 f.2 f.3 t in
      let s = f.4 r.0 in
      (s.0, finally_end c r.1 s.1 f.5)
  can_end (b_recode {c = o} {d = d} {a = k} {ps = ps} a) c h w t = elim (recoded-waits o d ps c h w) [
    | inl x ↦ let r = can_end a o h x.0 t in (r.0, subst (λ n. Run (Catch o k (Exit d)) t r.0 n) (sym x.1) (caught r.1 exit))
    | inr y ↦ let r = can_end a c h y.0 t in (r.0, passed r.1 y.1)
  ]
  can_end (b_same a to from) c h w t = can_end a c h (to c h w) t
  can_end (b_never a) c h w t = absurd w

  pub copies_end : {k : Control} {ps : List Pending} {g : List Segment} {g' : List Segment} {qs : List Pending} → Copied k ps g g' qs → (e : Completion) (h : ℕ) → Waits qs e h → FinalEnd k ps e
  copies_end c_done e h w = absurd w
  copies_end {k} (c_more {p = p} {ps = ps} {qs = qs} {rs = rs} b c) e h w = elim (waits_either (recoded Normal p.completion qs) rs e h w) [
    | inl x ↦ elim (recoded-waits Normal p.completion qs e h x) [
      | inl o ↦ (p.completion, Normal, p.head, inl (refl, refl), (λ t. can_end b Normal h o.0 t), inl (refl, o.1))
      | inr o ↦ (p.completion, e, p.head, inl (refl, refl), (λ t. can_end b e h o.0 t), inr (o.1, refl))
    ]
    | inr y ↦ let f = copies_end c e h y in (f.0, f.1, f.2, (others-waits p.completion (p ∷ ps) f.0 f.2 f.3).0, f.4, f.5)
  ]
