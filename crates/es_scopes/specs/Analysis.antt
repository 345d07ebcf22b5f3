-- What is known of the scopes of a tree.
use Rattle.std.specs.Prelude.{ℕ, ◌<◌, List, Option, All, IfSome, length, map, unwrap_or}
use Rattle.std.specs.List.{range_with_len}
use Rattle.es_tree.specs.Rows.{Row}
use Rattle.es_scopes.specs.declared.scope.Scope.{Scope}
use Rattle.es_scopes.specs.declared.uses.Reference.{Reference}
use Rattle.es_scopes.specs.Places.{scope_of}
use Rattle.es_scopes.specs.Variables.{Named}

pub record Analysis : Type 0 where
  -- for each node the innermost scope that holds it, for the Program its own
  pub standing : List ℕ
  -- the scopes by their numbers
  pub scopes : List Scope
  -- in the order of their scopes, and in a scope of their first declarations
  pub variables : List Named
  -- in the order of their nodes
  pub references : List Reference

-- for each node of a tree the innermost scope that holds it
abbrev pub standing : List Row → List ℕ
standing rows = map (scope_of rows) (range_with_len 0 (length rows))

-- where a node stands, which is the Program's scope for the Program
abbrev pub or_first : Option ℕ → ℕ
or_first scope = unwrap_or scope 0

-- the variable is of one of so many scopes, and its Identifiers are among so many nodes
abbrev pub IsVariableIn : ℕ → ℕ → Named → Type 0
IsVariableIn scopes nodes v = (v.scope < scopes) × All (λ node. node < nodes) v.nodes

-- the reference is one of so many nodes, and its variable one of so many
abbrev pub IsReferenceIn : ℕ → ℕ → Reference → Type 0
IsReferenceIn variables nodes r = (r.node < nodes) × IfSome r.variable (λ v. v < variables)
