-- The scopes from one outwards.
use Rattle.std.specs.Prelude.{ℕ, zero, suc, ◌≡◌, ◌<◌, List, [], ◌∷◌, Option, Some, find, option_map, slice_get, unwrap_or, Bool, false}
use Rattle.es_tree.specs.Around.{joined, with_around}
use Rattle.es_scopes.specs.declared.scope.Scope.{Scope}
use Rattle.es_scopes.specs.Opened.{holds_vars}

-- the scope around a scope, which neither the Program's has nor a number that is no scope's
abbrev pub scope_around : List Scope → ℕ → Option ℕ
scope_around scopes scope = joined (option_map (λ s. s.parent) (slice_get scopes scope))

-- the scopes around a scope that so many steps outwards find
abbrev pub beyond_within : ℕ → List Scope → ℕ → List ℕ
beyond_within zero scopes scope = []
beyond_within (suc steps) scopes scope = with_around (beyond_within steps scopes) (scope_around scopes scope)

-- the scopes around a scope, out to the Program's: each has a smaller number, so that a scope is in no more scopes
-- than its number says
unfoldable pub beyond : List Scope → ℕ → List ℕ
beyond scopes scope = beyond_within scope scopes scope

-- a scope and those around it, the innermost first
abbrev pub outward : List Scope → ℕ → List ℕ
outward scopes scope = scope ∷ beyond scopes scope

-- each scope is in one with a smaller number
pub record AreNested (scopes : List Scope) : Type 0 where
  pub before : (scope around : ℕ) → scope_around scopes scope ≡ Some around → around < scope

-- the scope is one that `var` doesn't leave
abbrev pub is_home : List Scope → ℕ → Bool
is_home scopes scope = unwrap_or (option_map (λ s. holds_vars s.kind) (slice_get scopes scope)) false

-- the innermost scope from one outwards that `var` doesn't leave
abbrev pub home : List Scope → ℕ → Option ℕ
home scopes scope = find (is_home scopes) (outward scopes scope)
