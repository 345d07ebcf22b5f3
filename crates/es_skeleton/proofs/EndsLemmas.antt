-- Each skeleton has a list of the completions of its runs, and so its labels have their copies.
use Rattle.std.proofs.Common.{◌≡◌, ◌≢◌, ℕ, ◌*◌, List, [], ◌∷◌, ◌++◌, ◌⊎◌, inl, inr, Bool, true, false, cond, length, refl, sym, ◌∙◌, subst}
use Rattle.es_fork.specs.declared.segment.Label.{Label}
use Rattle.es_fork.specs.Graphs.{Has, IsDistinct}
use Rattle.es_skeleton.specs.declared.completion.Completion.{Completion}
use Rattle.es_skeleton.specs.declared.completion.Completion.TheVariants.{Normal}
use Rattle.es_skeleton.specs.Completions.{same}
use Rattle.es_skeleton.specs.Controls.{Control, Emit, Exit, Catch, Choice, Loop, Finally}
use Rattle.es_skeleton.specs.Runs.{Run, emit, exit, caught, passed, left, right, again, leave, kept, replaced}
use Rattle.es_skeleton.specs.Copies.{AreEnds, Copies}
use Rattle.es_skeleton.specs.Copies as copy
use Rattle.es_skeleton.proofs.CompletionsLemmas.{same-true, same-false, cases_same}

-- the list without one completion
abbrev pub dropped : Completion → List Completion → List Completion
dropped c [] = []
dropped c (d ∷ ds) = cond (same d c) (dropped c ds) (d ∷ dropped c ds)

abbrev pub holds : Completion → List Completion → Bool
holds c [] = false
holds c (d ∷ ds) = cond (same d c) true (holds c ds)

-- those of both lists, each once
abbrev pub joint : List Completion → List Completion → List Completion
joint [] ys = ys
joint (x ∷ xs) ys = x ∷ dropped x (joint xs ys)

pub dropped-has : (c : Completion) (ds : List Completion) (d : Completion) → Has ds d → d ≢ c → Has (dropped c ds) d
dropped-has c [] d h n = absurd h
dropped-has c (e ∷ ds) d h n = go (same e c) refl h (λ m. dropped-has c ds d m n)
  where
    go : (b : Bool) → same e c ≡ b → (e ≡ d) ⊎ Has ds d → (Has ds d → Has (dropped c ds) d) → Has (cond b (dropped c ds) (e ∷ dropped c ds)) d
    go true q (inl x) ih = absurd (n (sym x ∙ same-true e c q))
    go true q (inr y) ih = ih y
    go false q (inl x) ih = inl x
    go false q (inr y) ih = inr (ih y)

pub has-dropped : (c : Completion) (ds : List Completion) (d : Completion) → Has (dropped c ds) d → Has ds d × (d ≢ c)
has-dropped c [] d h = absurd h
has-dropped c (e ∷ ds) d h = go (same e c) refl h (has-dropped c ds d)
  where
    later : Has ds d × (d ≢ c) → Has (e ∷ ds) d × (d ≢ c)
    later r = (inr r.0, r.1)

    go : (b : Bool) → same e c ≡ b → Has (cond b (dropped c ds) (e ∷ dropped c ds)) d → (Has (dropped c ds) d → Has ds d × (d ≢ c)) → Has (e ∷ ds) d × (d ≢ c)
    go true q m ih = later (ih m)
    go false q (inl x) ih = (inl x, λ z. same-false e c q (x ∙ z))
    go false q (inr y) ih = later (ih y)

pub dropped-distinct : (c : Completion) (ds : List Completion) → IsDistinct ds → IsDistinct (dropped c ds)
dropped-distinct c [] d = d
dropped-distinct c (e ∷ ds) d = go (same e c) (dropped-distinct c ds d.1)
  where
    go : (b : Bool) → IsDistinct (dropped c ds) → IsDistinct (cond b (dropped c ds) (e ∷ dropped c ds))
    go true ih = ih
    go false ih = (λ m. d.0 (has-dropped c ds e m).0, ih)

joint-distinct : (xs ys : List Completion) → IsDistinct ys → IsDistinct (joint xs ys)
joint-distinct [] ys d = d
joint-distinct (x ∷ xs) ys d = (λ m. (has-dropped x (joint xs ys) x m).1 refl, dropped-distinct x (joint xs ys) (joint-distinct xs ys d))

joint-has : (xs ys : List Completion) (c : Completion) → Has xs c ⊎ Has ys c → Has (joint xs ys) c
joint-has [] ys c (inl h) = absurd h
joint-has [] ys c (inr h) = h
joint-has (x ∷ xs) ys c h = elim (cases_same c x) [
  | inl e ↦ inl (sym e)
  | inr n ↦ inr (dropped-has x (joint xs ys) c (joint-has xs ys c (elim h [ inl m ↦ elim m [ inl e ↦ absurd (n (sym e)) | inr r ↦ inl r ] | inr r ↦ inr r ])) n)
]

has-joint : (xs ys : List Completion) (c : Completion) → Has (joint xs ys) c → Has xs c ⊎ Has ys c
has-joint [] ys c h = inr h
has-joint (x ∷ xs) ys c (inl e) = inl (inl e)
has-joint (x ∷ xs) ys c (inr h) = elim (has-joint xs ys c (has-dropped x (joint xs ys) c h).0) [ inl a ↦ inl (inr a) | inr b ↦ inr b ]

holds-has : (c : Completion) (ds : List Completion) → holds c ds ≡ true → Has ds c
holds-has c [] e = absurd (let z : false ≡ true = e in cc)
holds-has c (d ∷ ds) e = go (same d c) refl e (holds-has c ds)
  where
    go : (b : Bool) → same d c ≡ b → cond b true (holds c ds) ≡ true → (holds c ds ≡ true → Has ds c) → Has (d ∷ ds) c
    go true q x ih = inl (same-true d c q)
    go false q x ih = inr (ih x)

holds-free : (c : Completion) (ds : List Completion) → holds c ds ≡ false → Has ds c → ⊥
holds-free c [] e h = h
holds-free c (d ∷ ds) e h = go (same d c) refl e h (holds-free c ds)
  where
    go : (b : Bool) → same d c ≡ b → cond b true (holds c ds) ≡ false → (d ≡ c) ⊎ Has ds c → (holds c ds ≡ false → Has ds c → ⊥) → ⊥
    go true q x y ih = let z : true ≡ false = x in absurd cc
    go false q x (inl y) ih = same-false d c q y
    go false q x (inr y) ih = ih x y

abbrev pub finally_ends : List Completion → List Completion → List Completion
finally_ends [] bs = []
finally_ends (x ∷ xs) bs = cond (holds Normal bs) (joint (dropped Normal bs) (x ∷ xs)) bs

abbrev pub catch_ends : Completion → List Completion → List Completion → List Completion
catch_ends c fs bs = cond (holds c fs) (joint (dropped c fs) bs) fs

-- the completions of the skeleton's runs
abbrev pub ends_of : Control → List Completion
ends_of (Emit l) = Normal ∷ []
ends_of (Exit c) = c ∷ []
ends_of (Catch c a b) = catch_ends c (ends_of a) (ends_of b)
ends_of (Choice a b) = joint (ends_of a) (ends_of b)
ends_of (Loop a) = dropped Normal (ends_of a)
ends_of (Finally a b) = finally_ends (ends_of a) (ends_of b)

catch_distinct : (c : Completion) (fs bs : List Completion) → IsDistinct fs → IsDistinct bs → IsDistinct (catch_ends c fs bs)
catch_distinct c fs bs p q = go (holds c fs)
  where
    go : (b : Bool) → IsDistinct (cond b (joint (dropped c fs) bs) fs)
    go true = joint-distinct (dropped c fs) bs q
    go false = p

finally_distinct : (fs bs : List Completion) → IsDistinct fs → IsDistinct bs → IsDistinct (finally_ends fs bs)
finally_distinct [] bs p q = tt
finally_distinct (x ∷ xs) bs p q = go (holds Normal bs)
  where
    go : (b : Bool) → IsDistinct (cond b (joint (dropped Normal bs) (x ∷ xs)) bs)
    go true = joint-distinct (dropped Normal bs) (x ∷ xs) p
    go false = q

ends_distinct : (k : Control) → IsDistinct (ends_of k)
ends_distinct (Emit l) = (λ h. h, tt)
ends_distinct (Exit c) = (λ h. h, tt)
ends_distinct (Catch c a b) = catch_distinct c (ends_of a) (ends_of b) (ends_distinct a) (ends_distinct b)
ends_distinct (Choice a b) = joint-distinct (ends_of a) (ends_of b) (ends_distinct b)
ends_distinct (Loop a) = dropped-distinct Normal (ends_of a) (ends_distinct a)
ends_distinct (Finally a b) = finally_distinct (ends_of a) (ends_of b) (ends_distinct a) (ends_distinct b)

abbrev EndsSo : Control → Completion → Type 0
EndsSo k c = (trace : List Label) × Run k trace c

-- what comes of a catch
catch_case : (c : Completion) (fs bs : List Completion) (d : Completion) → Has (catch_ends c fs bs) d → (Has fs d × (d ≢ c)) ⊎ (Has fs c × Has bs d)
catch_case c fs bs d h = go (holds c fs) refl h
  where
    go : (b : Bool) → holds c fs ≡ b → Has (cond b (joint (dropped c fs) bs) fs) d → (Has fs d × (d ≢ c)) ⊎ (Has fs c × Has bs d)
    go true q m = elim (has-joint (dropped c fs) bs d m) [ inl x ↦ inl (has-dropped c fs d x) | inr y ↦ inr (holds-has c fs q, y) ]
    go false q m = inl (m, λ e. holds-free c fs q (subst (Has fs) e m))

catch_passed : (c : Completion) (fs bs : List Completion) (d : Completion) → Has fs d → d ≢ c → Has (catch_ends c fs bs) d
catch_passed c fs bs d m n = go (holds c fs)
  where
    go : (b : Bool) → Has (cond b (joint (dropped c fs) bs) fs) d
    go true = joint-has (dropped c fs) bs d (inl (dropped-has c fs d m n))
    go false = m

catch_caught : (c : Completion) (fs bs : List Completion) (d : Completion) → Has fs c → Has bs d → Has (catch_ends c fs bs) d
catch_caught c fs bs d m n = go (holds c fs) refl
  where
    go : (b : Bool) → holds c fs ≡ b → Has (cond b (joint (dropped c fs) bs) fs) d
    go true q = joint-has (dropped c fs) bs d (inr n)
    go false q = absurd (holds-free c fs q m)

-- what comes of a finalizer
finally_case : (fs bs : List Completion) (d : Completion) → Has (finally_ends fs bs) d → (Has fs d × Has bs Normal) ⊎ ((c : Completion) × Has fs c × Has bs d × (d ≢ Normal))
finally_case [] bs d h = absurd h
finally_case (x ∷ xs) bs d h = go (holds Normal bs) refl h
  where
    go : (b : Bool) → holds Normal bs ≡ b → Has (cond b (joint (dropped Normal bs) (x ∷ xs)) bs) d → (Has (x ∷ xs) d × Has bs Normal) ⊎ ((c : Completion) × Has (x ∷ xs) c × Has bs d × (d ≢ Normal))
    go true q m = elim (has-joint (dropped Normal bs) (x ∷ xs) d m) [
      | inl y ↦ let r = has-dropped Normal bs d y in inr (x, inl refl, r.0, r.1)
      | inr y ↦ inl (y, holds-has Normal bs q)
    ]
    go false q m = inr (x, inl refl, m, λ e. holds-free Normal bs q (subst (Has bs) e m))

finally_kept : (fs bs : List Completion) (d : Completion) → Has fs d → Has bs Normal → Has (finally_ends fs bs) d
finally_kept [] bs d m n = m
finally_kept (x ∷ xs) bs d m n = go (holds Normal bs) refl
  where
    go : (b : Bool) → holds Normal bs ≡ b → Has (cond b (joint (dropped Normal bs) (x ∷ xs)) bs) d
    go true q = joint-has (dropped Normal bs) (x ∷ xs) d (inr m)
    go false q = absurd (holds-free Normal bs q n)

finally_replaced : (fs bs : List Completion) (c d : Completion) → Has fs c → Has bs d → d ≢ Normal → Has (finally_ends fs bs) d
finally_replaced [] bs c d m n ne = absurd m
finally_replaced (x ∷ xs) bs c d m n ne = go (holds Normal bs)
  where
    go : (b : Bool) → Has (cond b (joint (dropped Normal bs) (x ∷ xs)) bs) d
    go true = joint-has (dropped Normal bs) (x ∷ xs) d (inl (dropped-has Normal bs d n ne))
    go false = n

has_run : (k : Control) (d : Completion) → Has (ends_of k) d → EndsSo k d
has_run (Emit l) d h = elim h [ inl e ↦ subst (EndsSo (Emit l)) e (l ∷ [], emit) | inr n ↦ absurd n ]
has_run (Exit c) d h = elim h [ inl e ↦ subst (EndsSo (Exit c)) e ([], exit) | inr n ↦ absurd n ]
has_run (Catch c a b) d h = elim (catch_case c (ends_of a) (ends_of b) d h) [
  | inl x ↦ let q = has_run a d x.0 in (q.0, passed q.1 x.1)
  | inr x ↦ let q = has_run a c x.0 in let z = has_run b d x.1 in (q.0 ++ z.0, caught q.1 z.1)
]
has_run (Choice a b) d h = elim (has-joint (ends_of a) (ends_of b) d h) [
  | inl x ↦ let q = has_run a d x in (q.0, left q.1)
  | inr x ↦ let q = has_run b d x in (q.0, right q.1)
]
has_run (Loop a) d h = let x = has-dropped Normal (ends_of a) d h in let q = has_run a d x.0 in (q.0, leave q.1 x.1)
has_run (Finally a b) d h = elim (finally_case (ends_of a) (ends_of b) d h) [
  | inl x ↦ let q = has_run a d x.0 in let z = has_run b Normal x.1 in (q.0 ++ z.0, kept q.1 z.1)
  | inr x ↦ let q = has_run a x.0 x.1 in let z = has_run b d x.2 in (q.0 ++ z.0, replaced q.1 z.1 x.3)
]

run_has : {k : Control} {t : List Label} {d : Completion} → Run k t d → Has (ends_of k) d
run_has emit = inl refl
run_has exit = inl refl
run_has (caught {c = c} {d = d} {a = a} {b = b} x y) = catch_caught c (ends_of a) (ends_of b) d (run_has x) (run_has y)
run_has (passed {c = c} {d = d} {a = a} {b = b} x n) = catch_passed c (ends_of a) (ends_of b) d (run_has x) n
run_has (left {d = d} {a = a} {b = b} x) = joint-has (ends_of a) (ends_of b) d (inl (run_has x))
run_has (right {d = d} {a = a} {b = b} x) = joint-has (ends_of a) (ends_of b) d (inr (run_has x))
run_has (again x y) = run_has y
run_has (leave {d = d} {a = a} x n) = dropped-has Normal (ends_of a) d (run_has x) n
run_has (kept {d = d} {a = a} {b = b} x y) = finally_kept (ends_of a) (ends_of b) d (run_has x) (run_has y)
run_has (replaced {c = c} {d = d} {a = a} {b = b} x y n) = finally_replaced (ends_of a) (ends_of b) c d (run_has x) (run_has y) n

pub are_ends : (k : Control) → AreEnds k (ends_of k)
are_ends k = record { distinct = ends_distinct k; all = λ c. (has_run k c, λ x. run_has x.1) }

-- each label has its copies
pub have_copies : (k : Control) (n : ℕ) → (xs : List (Label × ℕ)) × Copies k n xs
have_copies (Emit l) n = ((l, n) ∷ [], copy.emit)
have_copies (Exit c) n = ([], copy.exit)
have_copies (Catch c a b) n = let x = have_copies a n in let y = have_copies b n in (x.0 ++ y.0, copy.catch x.1 y.1)
have_copies (Choice a b) n = let x = have_copies a n in let y = have_copies b n in (x.0 ++ y.0, copy.choice x.1 y.1)
have_copies (Loop a) n = let x = have_copies a n in (x.0, copy.loop x.1)
have_copies (Finally a b) n = let x = have_copies a n in let y = have_copies b (n * length (ends_of a)) in (x.0 ++ y.0, copy.finally x.1 (are_ends a) y.1)
