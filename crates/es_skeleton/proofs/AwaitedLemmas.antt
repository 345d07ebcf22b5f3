-- The completions with which heads wait: they are counted one by one, and are those of the runs.
use Rattle.std.proofs.Common.{◌≡◌, ◌≢◌, ℕ, List, [], ◌∷◌, ◌++◌, ◌⊎◌, inl, inr, ◌<◌, length, get_or, arith, refl, sym, subst}
use Rattle.es_fork.specs.declared.segment.Segment.{Segment}
use Rattle.es_fork.specs.declared.segment.Label.{Label}
use Rattle.es_fork.specs.Graphs.{Has, IsDistinct}
use Rattle.es_skeleton.specs.declared.completion.Completion.{Completion}
use Rattle.es_skeleton.specs.declared.completion.Completion.TheVariants.{Normal}
use Rattle.es_skeleton.specs.declared.pending.Pending.{Pending}
use Rattle.es_skeleton.specs.Controls.{Control, Emit, Exit, Catch, Choice, Loop, Finally}
use Rattle.es_skeleton.specs.Runs.{Run, emit, exit, caught, passed, left, right, again, leave, kept, replaced}
use Rattle.es_skeleton.specs.Pendings.{Waits, others, recoded, AreAwaited}
use Rattle.es_skeleton.specs.Built.{at_head, Built, b_emit, b_exit, b_catch, b_dead, b_choice, b_loop, b_finally, b_never, b_same, b_recode, Copied, c_done, c_more}
use Rattle.es_skeleton.specs.Copies.{AreEnds}
use Rattle.es_skeleton.proofs.CompletionsLemmas.{cases_same}
use Rattle.es_skeleton.proofs.PendingsLemmas.{waits-recoded_at, waits-recoded_other, waits_left, waits_right, waits-others, others-waits}
use Rattle.es_skeleton.proofs.Complete.{never_waits}
use Rattle.es_skeleton.proofs.Words.{added}
use Rattle.es_skeleton.proofs.Inhabited.{can_end}

-- some completions of the heads are counted, and these are left
pub record Counted (seen : List Completion) (rest all : List Pending) : Type 0 where
  pub distinct : IsDistinct seen
  pub known : (c : Completion) (h : ℕ) → Waits all c h → Has seen c ⊎ Waits rest c h
  pub wait : (c : Completion) → Has seen c → (h : ℕ) × Waits all c h
  pub from : (c : Completion) (h : ℕ) → Waits rest c h → Waits all c h
  pub new : (c : Completion) (h : ℕ) → Waits rest c h → Has seen c → ⊥

pub counted_none : (all : List Pending) → Counted [] all all
counted_none all = record { distinct = tt; known = λ c h w. inr w; wait = λ c m. absurd m; from = λ c h w. w; new = λ c h w m. m }

pub counted_more : {seen : List Completion} {rest all : List Pending} (c : Completion) (h : ℕ) → Waits rest c h → Counted seen rest all → Counted (c ∷ seen) (others c rest) all
counted_more {seen} {rest} {all} c h w k = record {
  distinct = (k.new c h w, k.distinct);
  known = λ d j z. elim (k.known d j z) [
    | inl m ↦ inl (inr m)
    | inr z ↦ elim (cases_same d c) [ inl e ↦ inl (inl (sym e)) | inr n ↦ inr (waits-others c rest d j z n) ]
  ];
  wait = λ d m. elim m [ inl e ↦ subst (λ x. (j : ℕ) × Waits all x j) e (h, k.from c h w) | inr r ↦ k.wait d r ];
  from = λ d j z. k.from d j (others-waits c rest d j z).0;
  new = λ d j z m. let o = others-waits c rest d j z in elim m [ inl e ↦ o.1 (sym e) | inr r ↦ k.new d j o.0 r ];
}

pub first_waits : (ps : List Pending) (d : Pending) (c : Completion) → 0 < length ps → c ≡ (get_or ps 0 d).completion → (h : ℕ) × Waits ps c h
first_waits [] d c lt e = absurd (omega arith)
first_waits (p ∷ ps) d c lt e = (p.head, inl (sym e, refl))

pub counted_all : {seen : List Completion} {all : List Pending} → Counted seen [] all → AreAwaited all seen
counted_all {seen} {all} k = record {
  distinct = k.distinct;
  all = λ c. (k.wait c, λ w. elim (k.known c w.0 w.1) [ inl m ↦ m | inr n ↦ absurd n ]);
}

-- a head waits with each completion of a run
abbrev EndsIn : Control → List Pending → Type 0
EndsIn k ps = (t : List Label) (c : Completion) → Run k t c → (h : ℕ) × Waits ps c h

record EndsAfter (b : Control) (ps qs : List Pending) : Type 0 where
  kept : (c : Completion) (h : ℕ) → Waits ps c h → (u : List Label) → Run b u Normal → (j : ℕ) × Waits qs c j
  replaced : (c : Completion) (h : ℕ) → Waits ps c h → (u : List Label) (d : Completion) → Run b u d → d ≢ Normal → (j : ℕ) × Waits qs d j

emit_ends : {l : Label} (at : ℕ) → EndsIn (Emit l) (at_head Normal at ∷ [])
emit_ends at t c emit = (at, inl (refl, refl))

exit_ends : {c : Completion} (at : ℕ) → EndsIn (Exit c) (at_head c at ∷ [])
exit_ends at t c exit = (at, inl (refl, refl))

catch_ends : (c : Completion) {a b : Control} (ps qs : List Pending) → EndsIn a ps → EndsIn b qs → EndsIn (Catch c a b) (others c ps ++ qs)
catch_ends c ps qs ea eb t d (caught {u = u} x y) = let z = eb u d y in (z.0, waits_right (others c ps) qs d z.0 z.1)
catch_ends c ps qs ea eb t d (passed x n) = let z = ea t d x in (z.0, waits_left (others c ps) qs d z.0 (waits-others c ps d z.0 z.1 n))

dead_ends : (c : Completion) {a b : Control} (ps : List Pending) → EndsIn a ps → ((h : ℕ) → Waits ps c h → ⊥) → EndsIn (Catch c a b) (others c ps)
dead_ends c ps ea free t d (caught {t = s} x y) = let z = ea s c x in absurd (free z.0 z.1)
dead_ends c ps ea free t d (passed x n) = let z = ea t d x in (z.0, waits-others c ps d z.0 z.1 n)

choice_ends : {a b : Control} (ps qs : List Pending) → EndsIn a ps → EndsIn b qs → EndsIn (Choice a b) (ps ++ qs)
choice_ends ps qs ea eb t d (left x) = let z = ea t d x in (z.0, waits_left ps qs d z.0 z.1)
choice_ends ps qs ea eb t d (right x) = let z = eb t d x in (z.0, waits_right ps qs d z.0 z.1)

loop_ends : {a : Control} (ps : List Pending) → EndsIn a ps → EndsIn (Loop a) (others Normal ps)
loop_ends ps ea t d (again {u = u} x y) = loop_ends ps ea u d y
loop_ends ps ea t d (leave x n) = let z = ea t d x in (z.0, waits-others Normal ps d z.0 z.1 n)

recode_ends : (c d : Completion) {a : Control} (ps : List Pending) → EndsIn a ps → EndsIn (Catch c a (Exit d)) (recoded c d ps)
recode_ends c d ps ea t e (caught {t = s} x exit) = let z = ea s c x in (z.0, waits-recoded_at c d ps z.0 z.1)
recode_ends c d ps ea t e (passed x n) = let z = ea t e x in (z.0, waits-recoded_other c d ps e z.0 z.1 n)

finally_ends : {a b : Control} (ps qs : List Pending) → EndsIn a ps → EndsAfter b ps qs → EndsIn (Finally a b) qs
finally_ends ps qs ea eb t d (kept {t = s} {u = u} x y) = let z = ea s d x in eb.kept d z.0 z.1 u y
finally_ends ps qs ea eb t d (replaced {c = c} {t = s} {u = u} x y n) = let z = ea s c x in eb.replaced c z.0 z.1 u d y n

copy_ends : {b : Control} (p : Pending) (ps qs rs : List Pending) → EndsIn b qs → EndsAfter b (others p.completion (p ∷ ps)) rs → EndsAfter b (p ∷ ps) (recoded Normal p.completion qs ++ rs)
copy_ends p ps qs rs eb ec = record {
  kept = λ c h w u r. elim (cases_same c p.completion) [
    | inl e ↦ let z = eb u Normal r in
        (z.0, waits_left (recoded Normal p.completion qs) rs c z.0 (subst (λ x. Waits (recoded Normal p.completion qs) x z.0) (sym e) (waits-recoded_at Normal p.completion qs z.0 z.1)))
    | inr n ↦ let z = ec.kept c h (waits-others p.completion (p ∷ ps) c h w n) u r in (z.0, waits_right (recoded Normal p.completion qs) rs c z.0 z.1)
  ];
  replaced = λ c h w u d r ne. let z = eb u d r in (z.0, waits_left (recoded Normal p.completion qs) rs d z.0 (waits-recoded_other Normal p.completion qs d z.0 z.1 ne));
}

mutual
  run_waits : {k : Control} {g : List Segment} {at : ℕ} {g' : List Segment} {ps : List Pending} → Built k g at g' ps → EndsIn k ps
  run_waits (b_emit {at = at}) t d r = emit_ends at t d r
  run_waits (b_exit {at = at}) t d r = exit_ends at t d r
  run_waits (b_catch {c = c} {ps = ps} {qs = qs} a q b) t d r = catch_ends c ps qs (run_waits a) (run_waits b) t d r
  run_waits (b_dead {c = c} {ps = ps} a q b) t d r = dead_ends c ps (run_waits a) (never_waits c ps q) t d r
  run_waits (b_choice {ps = ps} {qs = qs} a b) t d r = choice_ends ps qs (run_waits a) (run_waits b) t d r
  run_waits (b_loop {ps = ps} a) t d r = loop_ends ps (run_waits a) t d r
  run_waits (b_finally {p = p} {ps = ps} {qs = qs} a b) t d r = finally_ends (p ∷ ps) qs (run_waits a) (copies_wait b) t d r
  run_waits (b_never a) t d r = finally_ends [] [] (run_waits a) (record { kept = λ c h w. absurd w; replaced = λ c h w. absurd w }) t d r
  run_waits (b_recode {c = c} {d = e} {ps = ps} a) t d r = recode_ends c e ps (run_waits a) t d r
  run_waits (b_same a to from) t d r = let z = run_waits a t d r in (z.0, from d z.0 z.1)

  copies_wait : {b : Control} {ps : List Pending} {g : List Segment} {g' : List Segment} {qs : List Pending} → Copied b ps g g' qs → EndsAfter b ps qs
  copies_wait c_done = record { kept = λ c h w. absurd w; replaced = λ c h w. absurd w }
  copies_wait (c_more {p = p} {ps = ps} {qs = qs} {rs = rs} b c) = copy_ends p ps qs rs (run_waits b) (copies_wait c)

-- the completions with which heads wait are those of the runs
pub awaited_ends : {k : Control} {g : List Segment} {at : ℕ} {g' : List Segment} {ps : List Pending} {cs : List Completion} → Built k g at g' ps → AreAwaited ps cs → AreEnds k cs
awaited_ends {k} {ps = ps} b w = record {
  distinct = w.distinct;
  all = λ c. (
    λ m. let h = (w.all c).0 m in let r = can_end b c h.0 h.1 [] in let a = added r.1 in (a.0, a.2),
    λ r. (w.all c).1 (run_waits b r.0 c r.1),
  );
}
