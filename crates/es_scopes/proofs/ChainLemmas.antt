-- The scopes around a scope, step by step.
use Rattle.std.proofs.Common.{◌≡◌, ◌∙◌, ℕ, zero, suc, ◌<◌, ◌≤◌, List, [], ◌∷◌, Option, Some, None, refl, ap, sym, subst, arith}
use Rattle.es_tree.specs.Around.{with_around}
use Rattle.es_scopes.specs.declared.scope.Scope.{Scope}
use Rattle.es_scopes.specs.Chains.{AreNested, beyond, beyond_within, scope_around}

with_same : (f g : ℕ → List ℕ) (up : Option ℕ) → ((scope : ℕ) → up ≡ Some scope → f scope ≡ g scope) → with_around f up ≡ with_around g up
with_same f g None same = refl
with_same f g (Some scope) same = ap (λ z. scope ∷ z) (same scope refl)

module _ (scopes : List Scope) (nested : AreNested scopes) where
  no_more : (steps : ℕ) (up : Option ℕ) → scope_around scopes 0 ≡ up → with_around (beyond_within steps scopes) up ≡ []
  no_more steps None is = refl
  no_more steps (Some above) is = let before : above < 0 = nested.before 0 above is in absurd (omega (arith, before))

  first_has_none : (steps : ℕ) → beyond_within steps scopes 0 ≡ []
  first_has_none zero = refl
  first_has_none (suc steps) = no_more steps (scope_around scopes 0) refl

  -- more steps than the scope's number find no more scopes
  within_enough : (s t scope : ℕ) → scope ≤ s → scope ≤ t → beyond_within s scopes scope ≡ beyond_within t scopes scope
  within_enough zero t scope least most =
      let first : scope ≡ 0 = omega (arith, least) in
      let P : ℕ → Type 0 = λ n. beyond_within zero scopes n ≡ beyond_within t scopes n in
      subst P (sym first) (sym (first_has_none t))
  within_enough (suc s) zero scope least most =
      let first : scope ≡ 0 = omega (arith, most) in
      let P : ℕ → Type 0 = λ n. beyond_within (suc s) scopes n ≡ beyond_within zero scopes n in
      subst P (sym first) (first_has_none (suc s))
  within_enough (suc s) (suc t) scope least most =
      with_same (beyond_within s scopes) (beyond_within t scopes) (scope_around scopes scope) (λ above is.
      let before : above < scope = nested.before scope above is in
      within_enough s t above (omega (arith, before, least)) (omega (arith, before, most)))

  -- what is around a scope is the scope around it and what is around that
  pub beyond-step : (scope : ℕ) → beyond scopes scope ≡ with_around (beyond scopes) (scope_around scopes scope)
  unfolding beyond
  beyond-step zero = sym (no_more zero (scope_around scopes 0) refl ∙ refl) ∙ with_same (beyond_within zero scopes) (λ n. beyond_within n scopes n) (scope_around scopes 0) (λ above is.
      let before : above < 0 = nested.before 0 above is in absurd (omega (arith, before)))
  beyond-step (suc scope) =
      with_same (beyond_within scope scopes) (λ n. beyond_within n scopes n) (scope_around scopes (suc scope)) (λ above is.
      let before : above < suc scope = nested.before (suc scope) above is in
      within_enough scope above above (omega (arith, before)) (omega arith))
