-- Members of lists of heads that wait.
use Rattle.std.proofs.Common.{◌≡◌, ◌≢◌, ℕ, List, [], ◌∷◌, ◌++◌, ◌⊎◌, inl, inr, Bool, true, false, cond, refl, sym, ◌∙◌}
use Rattle.es_fork.specs.Graphs.{Has}
use Rattle.es_skeleton.specs.declared.completion.Completion.{Completion}
use Rattle.es_skeleton.specs.declared.pending.Pending.{Pending}
use Rattle.es_skeleton.specs.Completions.{same}
use Rattle.es_skeleton.specs.Pendings.{Waits, heads, others, recoded}
use Rattle.es_skeleton.proofs.CompletionsLemmas.{same-true, same-false}

-- Members of lists of numbers and of heads that wait.

pub waits_left : (ps qs : List Pending) (c : Completion) (h : ℕ) → Waits ps c h → Waits (ps ++ qs) c h
waits_left [] qs c h w = elim w [ ]
waits_left (p ∷ ps) qs c h (inl e) = inl e
waits_left (p ∷ ps) qs c h (inr w) = inr (waits_left ps qs c h w)

pub waits_right : (ps qs : List Pending) (c : Completion) (h : ℕ) → Waits qs c h → Waits (ps ++ qs) c h
waits_right [] qs c h w = w
waits_right (p ∷ ps) qs c h w = inr (waits_right ps qs c h w)

pub waits_either : (ps qs : List Pending) (c : Completion) (h : ℕ) → Waits (ps ++ qs) c h → Waits ps c h ⊎ Waits qs c h
waits_either [] qs c h w = inr w
waits_either (p ∷ ps) qs c h (inl e) = inl (inl e)
waits_either (p ∷ ps) qs c h (inr w) = elim (waits_either ps qs c h w) [ inl x ↦ inl (inr x) | inr y ↦ inr y ]

-- the heads that wait with c, and no others, are in `heads`
pub waits-heads : (c : Completion) (ps : List Pending) (h : ℕ) → Waits ps c h → Has (heads c ps) h
waits-heads c [] h w = elim w [ ]
waits-heads c (p ∷ ps) h w = go (same p.completion c) refl w (waits-heads c ps h)
  where
    go : (b : Bool) → same p.completion c ≡ b → ((p.completion ≡ c) × (p.head ≡ h)) ⊎ Waits ps c h → (Waits ps c h → Has (heads c ps) h) → Has (cond b (p.head ∷ heads c ps) (heads c ps)) h
    go true e (inl x) ih = inl x.1
    go true e (inr y) ih = inr (ih y)
    go false e (inl x) ih = absurd (same-false p.completion c e x.0)
    go false e (inr y) ih = ih y

pub heads-waits : (c : Completion) (ps : List Pending) (h : ℕ) → Has (heads c ps) h → Waits ps c h
heads-waits c [] h m = elim m [ ]
heads-waits c (p ∷ ps) h m = go (same p.completion c) refl m (heads-waits c ps h)
  where
    go : (b : Bool) → same p.completion c ≡ b → Has (cond b (p.head ∷ heads c ps) (heads c ps)) h → (Has (heads c ps) h → Waits ps c h) → Waits (p ∷ ps) c h
    go true e (inl x) ih = inl (same-true p.completion c e, x)
    go true e (inr y) ih = inr (ih y)
    go false e y ih = inr (ih y)

pub waits-others : (c : Completion) (ps : List Pending) (d : Completion) (h : ℕ) → Waits ps d h → d ≢ c → Waits (others c ps) d h
waits-others c [] d h w n = elim w [ ]
waits-others c (p ∷ ps) d h w n = go (same p.completion c) refl w (λ y. waits-others c ps d h y n)
  where
    go : (b : Bool) → same p.completion c ≡ b → ((p.completion ≡ d) × (p.head ≡ h)) ⊎ Waits ps d h → (Waits ps d h → Waits (others c ps) d h) → Waits (cond b (others c ps) (p ∷ others c ps)) d h
    go true e (inl x) ih = absurd (n (sym x.0 ∙ same-true p.completion c e))
    go true e (inr y) ih = ih y
    go false e (inl x) ih = inl x
    go false e (inr y) ih = inr (ih y)

pub others-waits : (c : Completion) (ps : List Pending) (d : Completion) (h : ℕ) → Waits (others c ps) d h → Waits ps d h × (d ≢ c)
others-waits c [] d h w = elim w [ ]
others-waits c (p ∷ ps) d h w = go (same p.completion c) refl w (others-waits c ps d h)
  where
    later : Waits ps d h × (d ≢ c) → Waits (p ∷ ps) d h × (d ≢ c)
    later r = (inr r.0, r.1)

    go : (b : Bool) → same p.completion c ≡ b → Waits (cond b (others c ps) (p ∷ others c ps)) d h → (Waits (others c ps) d h → Waits ps d h × (d ≢ c)) → Waits (p ∷ ps) d h × (d ≢ c)
    go true e y ih = later (ih y)
    go false e (inl x) ih = (inl x, λ z. same-false p.completion c e (x.0 ∙ z))
    go false e (inr y) ih = later (ih y)

pub waits-recoded_at : (o c : Completion) (ps : List Pending) (h : ℕ) → Waits ps o h → Waits (recoded o c ps) c h
waits-recoded_at o c [] h w = elim w [ ]
waits-recoded_at o c (p ∷ ps) h w = go (same p.completion o) refl w (waits-recoded_at o c ps h)
  where
    go : (b : Bool) → same p.completion o ≡ b → ((p.completion ≡ o) × (p.head ≡ h)) ⊎ Waits ps o h → (Waits ps o h → Waits (recoded o c ps) c h) → ((cond b c p.completion ≡ c) × (p.head ≡ h)) ⊎ Waits (recoded o c ps) c h
    go true e (inl x) ih = inl (refl, x.1)
    go false e (inl x) ih = absurd (same-false p.completion o e x.0)
    go true e (inr y) ih = inr (ih y)
    go false e (inr y) ih = inr (ih y)

pub waits-recoded_other : (o c : Completion) (ps : List Pending) (d : Completion) (h : ℕ) → Waits ps d h → d ≢ o → Waits (recoded o c ps) d h
waits-recoded_other o c [] d h w n = elim w [ ]
waits-recoded_other o c (p ∷ ps) d h w n = go (same p.completion o) refl w (λ y. waits-recoded_other o c ps d h y n)
  where
    go : (b : Bool) → same p.completion o ≡ b → ((p.completion ≡ d) × (p.head ≡ h)) ⊎ Waits ps d h → (Waits ps d h → Waits (recoded o c ps) d h) → ((cond b c p.completion ≡ d) × (p.head ≡ h)) ⊎ Waits (recoded o c ps) d h
    go true e (inl x) ih = absurd (n (sym x.0 ∙ same-true p.completion o e))
    go false e (inl x) ih = inl x
    go true e (inr y) ih = inr (ih y)
    go false e (inr y) ih = inr (ih y)

pub recoded-waits : (o c : Completion) (ps : List Pending) (d : Completion) (h : ℕ) → Waits (recoded o c ps) d h → (Waits ps o h × (d ≡ c)) ⊎ (Waits ps d h × (d ≢ o))
recoded-waits o c [] d h w = elim w [ ]
recoded-waits o c (p ∷ ps) d h w = go (same p.completion o) refl w (recoded-waits o c ps d h)
  where
    later : (Waits ps o h × (d ≡ c)) ⊎ (Waits ps d h × (d ≢ o)) → (Waits (p ∷ ps) o h × (d ≡ c)) ⊎ (Waits (p ∷ ps) d h × (d ≢ o))
    later (inl x) = inl (inr x.0, x.1)
    later (inr y) = inr (inr y.0, y.1)

    go : (b : Bool) → same p.completion o ≡ b → ((cond b c p.completion ≡ d) × (p.head ≡ h)) ⊎ Waits (recoded o c ps) d h → (Waits (recoded o c ps) d h → (Waits ps o h × (d ≡ c)) ⊎ (Waits ps d h × (d ≢ o))) → (Waits (p ∷ ps) o h × (d ≡ c)) ⊎ (Waits (p ∷ ps) d h × (d ≢ o))
    go true e (inl x) ih = inl (inl (same-true p.completion o e, x.1), sym x.0)
    go false e (inl x) ih = inr (inl x, λ z. same-false p.completion o e (x.0 ∙ z))
    go true e (inr y) ih = later (ih y)
    go false e (inr y) ih = later (ih y)
