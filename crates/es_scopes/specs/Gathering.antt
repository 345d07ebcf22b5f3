-- How the code gathers variables: one declaration after another, with a table of names for each scope.
use Rattle.std.specs.Prelude.{ℕ, zero, suc, ◌≡◌, Bool, true, not, ◌==◌, List, [], ◌∷◌, ◌++◌, Option, slice_get, String, if◌then◌else◌}
use Rattle.std.specs.HashMap.{HashMap, get_by_text}
use Rattle.std.specs.List.{list_all}
use Rattle.std.specs.Option.{option_and_then}
use Rattle.es_text.specs.Lists.{pushed_at}
use Rattle.es_tree.specs.Rows.{Row}
use Rattle.es_scopes.specs.declared.declarations.Declaration.{Declaration}
use Rattle.es_scopes.specs.Declarations.{name_declared, some_list}
use Rattle.es_scopes.specs.Variables.{Named, found_in, is_of, variable}

-- each declaration joins those of its scope, of which there may be none
abbrev pub put_all : List (List Declaration) → List Declaration → List (List Declaration)
put_all lists [] = lists
put_all lists (d ∷ ds) = put_all (pushed_at lists d.scope d) ds

-- the variable, with further nodes
abbrev pub with_nodes : List ℕ → Named → Named
with_nodes nodes v = record v { nodes = v.nodes ++ nodes }

-- the variables, of which the one at this index gets further nodes
abbrev pub with_nodes_at : List Named → ℕ → List ℕ → List Named
with_nodes_at [] index nodes = []
with_nodes_at (v ∷ vs) zero nodes = with_nodes nodes v ∷ vs
with_nodes_at (v ∷ vs) (suc index) nodes = v ∷ with_nodes_at vs index nodes

-- the variables after one more declaration in this scope
abbrev pub joined : List Row → ℕ → List Named → Declaration → List Named
joined rows scope [] d = variable rows scope d (d ∷ []) ∷ []
joined rows scope (v ∷ vs) d =
    if is_of scope (name_declared rows d.node) v then with_nodes (some_list d.node) v ∷ vs else v ∷ joined rows scope vs d

-- the variable isn't of this scope
abbrev pub is_elsewhere : ℕ → Named → Bool
is_elsewhere scope v = not (v.scope == scope)

-- none of the variables is of this scope
abbrev pub IsFresh : ℕ → List Named → Type 0
IsFresh scope variables = list_all (is_elsewhere scope) variables ≡ true

-- the table has the variables of this scope by their names
abbrev pub IsTable : {Z S : Type 0} → ℕ → List Named → HashMap (String Z) ℕ S → Type 0
IsTable scope variables table = (name : List ℕ) → get_by_text table name ≡ found_in variables name scope

-- what the table of a scope has at a name; a number that is no scope's has none
abbrev pub finds : {Z S : Type 0} → List (HashMap (String Z) ℕ S) → List ℕ → ℕ → Option ℕ
finds tables name scope = option_and_then (λ table. get_by_text table name) (slice_get tables scope)

-- the tables have the variables of all scopes by their names
pub record AreTables {Z S : Type 0} (variables : List Named) (tables : List (HashMap (String Z) ℕ S)) : Type 0 where
  pub found : (scope : ℕ) (name : List ℕ) → finds tables name scope ≡ found_in variables name scope
