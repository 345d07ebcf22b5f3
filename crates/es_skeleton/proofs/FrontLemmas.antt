-- Normal heads kept apart from the others that wait.
use Rattle.std.proofs.Common.{◌≡◌, ℕ, List, [], ◌∷◌, ◌++◌, inl, inr, Bool, true, false, cond, map, refl, sym, ◌∙◌, ap, subst, append-nil}
use Rattle.es_fork.specs.Graphs.{Has}
use Rattle.es_skeleton.specs.declared.completion.Completion.{Completion}
use Rattle.es_skeleton.specs.declared.completion.Completion.TheVariants.{Normal}
use Rattle.es_skeleton.specs.declared.pending.Pending.{Pending}
use Rattle.es_skeleton.specs.Completions.{same}
use Rattle.es_skeleton.specs.Pendings.{Waits, heads, others, recoded}
use Rattle.es_skeleton.specs.Built.{at_head}
use Rattle.es_skeleton.proofs.CompletionsLemmas.{same-true, cases_same}
use Rattle.es_skeleton.proofs.PendingsLemmas.{waits-recoded_at, waits-recoded_other, recoded-waits, waits_left, waits_right, waits_either, waits-heads, heads-waits, waits-others, others-waits}
use Rattle.es_skeleton.proofs.StepsLemmas.{has_left, has_right, has_append}

-- all that waits: the others, and then the normal heads
abbrev pub both : List Pending → List ℕ → List Pending
both rest normal = rest ++ map (at_head Normal) normal

pub waits-map : (ns : List ℕ) (c : Completion) (h : ℕ) → Waits (map (at_head Normal) ns) c h → (Normal ≡ c) × Has ns h
waits-map [] c h w = absurd w
waits-map (n ∷ ns) c h (inl e) = (e.0, inl e.1)
waits-map (n ∷ ns) c h (inr w) = let r = waits-map ns c h w in (r.0, inr r.1)

pub map-waits : (ns : List ℕ) (h : ℕ) → Has ns h → Waits (map (at_head Normal) ns) Normal h
map-waits [] h m = absurd m
map-waits (n ∷ ns) h (inl e) = inl (refl, e)
map-waits (n ∷ ns) h (inr m) = inr (map-waits ns h m)

none_has : (xs : List ℕ) → ((h : ℕ) → Has xs h → ⊥) → xs ≡ []
none_has [] free = refl
none_has (x ∷ xs) free = absurd (free x (inl refl))

-- no head waits normally
abbrev pub HasNone : List Pending → Type 0
HasNone ps = (h : ℕ) → Waits ps Normal h → ⊥

heads-none : (ps : List Pending) → HasNone ps → heads Normal ps ≡ []
heads-none ps free = none_has (heads Normal ps) (λ h m. free h (heads-waits Normal ps h m))

heads-append : (c : Completion) (ps qs : List Pending) → heads c (ps ++ qs) ≡ heads c ps ++ heads c qs
heads-append c [] qs = refl
heads-append c (p ∷ ps) qs = go (same p.completion c) (heads-append c ps qs)
  where
    go : (b : Bool) → heads c (ps ++ qs) ≡ heads c ps ++ heads c qs → cond b (p.head ∷ heads c (ps ++ qs)) (heads c (ps ++ qs)) ≡ cond b (p.head ∷ heads c ps) (heads c ps) ++ heads c qs
    go true e = ap (λ l. p.head ∷ l) e
    go false e = e

others-append : (c : Completion) (ps qs : List Pending) → others c (ps ++ qs) ≡ others c ps ++ others c qs
others-append c [] qs = refl
others-append c (p ∷ ps) qs = go (same p.completion c) (others-append c ps qs)
  where
    go : (b : Bool) → others c (ps ++ qs) ≡ others c ps ++ others c qs → cond b (others c (ps ++ qs)) (p ∷ others c (ps ++ qs)) ≡ cond b (others c ps) (p ∷ others c ps) ++ others c qs
    go true e = e
    go false e = ap (λ l. p ∷ l) e

heads-map : (ns : List ℕ) → heads Normal (map (at_head Normal) ns) ≡ ns
heads-map [] = refl
heads-map (n ∷ ns) = ap (λ l. n ∷ l) (heads-map ns)

others-map : (ns : List ℕ) → others Normal (map (at_head Normal) ns) ≡ []
others-map [] = refl
others-map (n ∷ ns) = others-map ns

others-none : (ps : List Pending) → HasNone ps → others Normal ps ≡ ps
others-none [] free = refl
others-none (p ∷ ps) free = go (same p.completion Normal) refl (others-none ps (λ h w. free h (inr w)))
  where
    go : (b : Bool) → same p.completion Normal ≡ b → others Normal ps ≡ ps → cond b (others Normal ps) (p ∷ others Normal ps) ≡ p ∷ ps
    go true e ih = absurd (free p.head (inl (same-true p.completion Normal e, refl)))
    go false e ih = ap (λ l. p ∷ l) ih

pub heads-both : (rest : List Pending) (normal : List ℕ) → HasNone rest → heads Normal (both rest normal) ≡ normal
heads-both rest normal free = heads-append Normal rest (map (at_head Normal) normal) ∙ ap (λ l. l ++ heads Normal (map (at_head Normal) normal)) (heads-none rest free) ∙ heads-map normal

pub others-both : (rest : List Pending) (normal : List ℕ) → HasNone rest → others Normal (both rest normal) ≡ rest
others-both rest normal free =
    others-append Normal rest (map (at_head Normal) normal) ∙ ap (λ l. l ++ others Normal (map (at_head Normal) normal)) (others-none rest free) ∙ ap (λ l. rest ++ l) (others-map normal) ∙ append-nil rest

pub none_after : (rest qs : List Pending) → HasNone rest → HasNone (rest ++ others Normal qs)
none_after rest qs free h w = elim (waits_either rest (others Normal qs) Normal h w) [ inl x ↦ free h x | inr y ↦ (others-waits Normal qs Normal h y).1 refl ]

pub none_enter : (c : Completion) (rest : List Pending) → HasNone rest → HasNone (others c rest)
none_enter c rest free h w = free h (others-waits c rest Normal h w).0

-- the normal heads of a further part, apart from its others
pub after_to : (rest qs : List Pending) (c : Completion) (h : ℕ) → Waits (both (rest ++ others Normal qs) (heads Normal qs)) c h → Waits (rest ++ qs) c h
after_to rest qs c h w = elim (waits_either (rest ++ others Normal qs) (map (at_head Normal) (heads Normal qs)) c h w) [
  | inl x ↦ elim (waits_either rest (others Normal qs) c h x) [
    | inl y ↦ waits_left rest qs c h y
    | inr y ↦ waits_right rest qs c h (others-waits Normal qs c h y).0
  ]
  | inr x ↦ let m = waits-map (heads Normal qs) c h x in waits_right rest qs c h (subst (λ d. Waits qs d h) m.0 (heads-waits Normal qs h m.1))
]

pub after_from : (rest qs : List Pending) (c : Completion) (h : ℕ) → Waits (rest ++ qs) c h → Waits (both (rest ++ others Normal qs) (heads Normal qs)) c h
after_from rest qs c h w = elim (waits_either rest qs c h w) [
  | inl x ↦ waits_left (rest ++ others Normal qs) (map (at_head Normal) (heads Normal qs)) c h (waits_left rest (others Normal qs) c h x)
  | inr x ↦ elim (cases_same c Normal) [
    | inl e ↦ waits_right (rest ++ others Normal qs) (map (at_head Normal) (heads Normal qs)) c h
        (subst (λ d. Waits (map (at_head Normal) (heads Normal qs)) d h) (sym e) (map-waits (heads Normal qs) h (waits-heads Normal qs h (subst (λ d. Waits qs d h) e x))))
    | inr n ↦ waits_left (rest ++ others Normal qs) (map (at_head Normal) (heads Normal qs)) c h (waits_right rest (others Normal qs) c h (waits-others Normal qs c h x n))
  ]
]

-- what waits with c, among the normal heads
pub enter_to : (c : Completion) (rest : List Pending) (normal : List ℕ) (d : Completion) (h : ℕ) → Waits (both (others c rest) (normal ++ heads c rest)) d h → Waits (recoded c Normal (both rest normal)) d h
enter_to c rest normal d h w = elim (waits_either (others c rest) (map (at_head Normal) (normal ++ heads c rest)) d h w) [
  | inl x ↦ let o = others-waits c rest d h x in waits-recoded_other c Normal (both rest normal) d h (waits_left rest (map (at_head Normal) normal) d h o.0) o.1
  | inr x ↦ let m = waits-map (normal ++ heads c rest) d h x in
      subst (λ e. Waits (recoded c Normal (both rest normal)) e h) m.0 (elim (has_append normal (heads c rest) h m.1) [
        | inl y ↦
            let z : Waits (both rest normal) Normal h = waits_right rest (map (at_head Normal) normal) Normal h (map-waits normal h y) in
            elim (cases_same Normal c) [
              | inl e ↦ waits-recoded_at c Normal (both rest normal) h (subst (λ k. Waits (both rest normal) k h) e z)
              | inr n ↦ waits-recoded_other c Normal (both rest normal) Normal h z n
            ]
        | inr y ↦ waits-recoded_at c Normal (both rest normal) h (waits_left rest (map (at_head Normal) normal) c h (heads-waits c rest h y))
      ])
]

pub enter_from : (c : Completion) (rest : List Pending) (normal : List ℕ) (d : Completion) (h : ℕ) → Waits (recoded c Normal (both rest normal)) d h → Waits (both (others c rest) (normal ++ heads c rest)) d h
enter_from c rest normal d h w =
    let last : List Pending = map (at_head Normal) (normal ++ heads c rest) in
    let by_normal : (Normal ≡ d) → Has (normal ++ heads c rest) h → Waits (both (others c rest) (normal ++ heads c rest)) d h =
    λ e m. waits_right (others c rest) last d h (subst (λ k. Waits last k h) e (map-waits (normal ++ heads c rest) h m)) in
    elim (recoded-waits c Normal (both rest normal) d h w) [
      | inl x ↦ elim (waits_either rest (map (at_head Normal) normal) c h x.0) [
        | inl y ↦ by_normal (sym x.1) (has_right normal (heads c rest) h (waits-heads c rest h y))
        | inr y ↦ by_normal (sym x.1) (has_left normal (heads c rest) h (waits-map normal c h y).1)
      ]
      | inr x ↦ elim (waits_either rest (map (at_head Normal) normal) d h x.0) [
        | inl y ↦ waits_left (others c rest) last d h (waits-others c rest d h y x.1)
        | inr y ↦ let m = waits-map normal d h y in by_normal m.0 (has_left normal (heads c rest) h m.1)
      ]
    ]
