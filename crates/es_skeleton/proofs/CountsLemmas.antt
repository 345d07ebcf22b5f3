-- A skeleton has one list of copies: the completions of its parts are as many, however they are listed.
use Rattle.std.proofs.Common.{◌≡◌, ℕ, suc, ◌*◌, List, [], ◌∷◌, ◌++◌, ◌⊎◌, inl, inr, Bool, true, false, cond, length, refl, sym, ◌∙◌, ap, subst}
use Rattle.es_fork.specs.declared.segment.Label.{Label}
use Rattle.es_fork.specs.Graphs.{Has, IsDistinct}
use Rattle.es_skeleton.specs.declared.completion.Completion.{Completion}
use Rattle.es_skeleton.specs.Completions.{same}
use Rattle.es_skeleton.specs.Controls.{Control}
use Rattle.es_skeleton.specs.Copies.{AreEnds, Copies, CountsOnce}
use Rattle.es_skeleton.specs.Copies as copy
use Rattle.es_skeleton.proofs.CompletionsLemmas.{same-true, same-false}
use Rattle.es_skeleton.proofs.EndsLemmas.{dropped, dropped-has, has-dropped, dropped-distinct, have_copies}

dropped-free : (c : Completion) (ds : List Completion) → (Has ds c → ⊥) → length (dropped c ds) ≡ length ds
dropped-free c [] free = refl
dropped-free c (d ∷ ds) free = go (same d c) refl (dropped-free c ds (λ m. free (inr m)))
  where
    go : (b : Bool) → same d c ≡ b → length (dropped c ds) ≡ length ds → length (cond b (dropped c ds) (d ∷ dropped c ds)) ≡ length (d ∷ ds)
    go true q e = absurd (free (inl (same-true d c q)))
    go false q e = ap suc e

-- without one of its members a list is one shorter
dropped-one : (c : Completion) (ds : List Completion) → IsDistinct ds → Has ds c → suc (length (dropped c ds)) ≡ length ds
dropped-one c [] d m = absurd m
dropped-one c (x ∷ ds) d m = go (same x c) refl m (dropped-one c ds d.1)
  where
    go : (b : Bool) → same x c ≡ b → (x ≡ c) ⊎ Has ds c → (Has ds c → suc (length (dropped c ds)) ≡ length ds) → suc (length (cond b (dropped c ds) (x ∷ dropped c ds))) ≡ length (x ∷ ds)
    go true q m ih = ap suc (dropped-free c ds (λ h. d.0 (subst (Has ds) (sym (same-true x c q)) h)))
    go false q (inl e) ih = absurd (same-false x c q e)
    go false q (inr h) ih = ap suc (ih h)

same_length : (xs ys : List Completion) → IsDistinct xs → IsDistinct ys → ((c : Completion) → Has xs c → Has ys c) → ((c : Completion) → Has ys c → Has xs c) → length xs ≡ length ys
same_length [] [] p q to from = refl
same_length [] (y ∷ ys) p q to from = absurd (from y (inl refl))
same_length (x ∷ xs) ys p q to from =
    ap suc (same_length xs (dropped x ys) p.1 (dropped-distinct x ys q)
    (λ c m. dropped-has x ys c (to c (inr m)) (λ e. p.0 (subst (Has xs) e m)))
    (λ c m. let h = has-dropped x ys c m in elim (from c h.0) [ inl e ↦ absurd (h.1 (sym e)) | inr r ↦ r ]))
    ∙ dropped-one x ys q (to x (inl refl))

ends_length : {k : Control} {xs ys : List Completion} → AreEnds k xs → AreEnds k ys → length xs ≡ length ys
ends_length {k} {xs} {ys} p q = same_length xs ys p.distinct q.distinct (λ c m. (q.all c).1 ((p.all c).0 m)) (λ c m. (p.all c).1 ((q.all c).0 m))

same_copies : {k : Control} {n m : ℕ} {xs ys : List (Label × ℕ)} → Copies k n xs → Copies k m ys → n ≡ m → xs ≡ ys
same_copies (copy.emit {l = l}) copy.emit e = ap (λ c. (l, c) ∷ []) e
same_copies copy.exit copy.exit e = refl
same_copies (copy.catch {xs = xs} {ys = ys} a b) (copy.catch {xs = zs} {ys = ws} c d) e = ap (λ l. l ++ ys) (same_copies a c e) ∙ ap (λ l. zs ++ l) (same_copies b d e)
same_copies (copy.choice {xs = xs} {ys = ys} a b) (copy.choice {xs = zs} {ys = ws} c d) e = ap (λ l. l ++ ys) (same_copies a c e) ∙ ap (λ l. zs ++ l) (same_copies b d e)
same_copies (copy.loop a) (copy.loop c) e = same_copies a c e
same_copies (copy.finally {n = n} {ends = es} {xs = xs} {ys = ys} a p b) (copy.finally {n = m} {ends = fs} {xs = zs} {ys = ws} c q d) e =
    ap (λ l. l ++ ys) (same_copies a c e) ∙ ap (λ l. zs ++ l) (same_copies b d (ap (λ i. i * length es) e ∙ ap (λ i. m * i) (ends_length p q)))

pub counts_once : CountsOnce
counts_once k = let x = have_copies k 1 in (x.0, x.1, λ ys y. same_copies y x.1 refl)
