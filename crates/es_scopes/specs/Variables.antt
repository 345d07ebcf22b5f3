-- The variables of scopes: one for each name that is declared in a scope.
use Rattle.std.specs.Prelude.{ℕ, suc, Bool, not, ◌&&◌, ◌==◌, List, [], ◌∷◌, length, Option, Some, None, filter, option_map, if◌then◌else◌}
use Rattle.std.specs.List.{flat_map, range_with_len}
use Rattle.std.specs.Str.{bytes_eq, encode_utf8_all}
use Rattle.es_tree.specs.Rows.{Row}
use Rattle.es_scopes.specs.declared.binding.DeclarationKind.{DeclarationKind}
use Rattle.es_scopes.specs.declared.scope.Scope.{Scope}
use Rattle.es_scopes.specs.declared.variable.Variable.{Variable}
use Rattle.es_scopes.specs.declared.declarations.Declaration.{Declaration}
use Rattle.es_scopes.specs.Chains.{outward}
use Rattle.es_scopes.specs.Declarations.{declarations, declared_in, is_named, name_declared, some_list}
use Rattle.es_scopes.specs.Places.{first_some, scopes}

-- a variable, whose name is in UTF-8
pub record Named : Type 0 where
  pub name : List ℕ
  pub scope : ℕ
  -- what its first declaration is
  pub kind : DeclarationKind
  -- the Identifiers that declare it, in order
  pub nodes : List ℕ

-- the Identifiers of this name among the declarations
abbrev pub nodes_named : List Row → List ℕ → List Declaration → List ℕ
nodes_named rows name declarations = flat_map (λ d. some_list d.node) (filter (is_named rows name) declarations)

-- the variable of a scope that a first declaration among these makes
abbrev pub variable : List Row → ℕ → Declaration → List Declaration → Named
variable rows scope d declarations =
    let name = name_declared rows d.node in
    record { name = name; scope = scope; kind = d.kind; nodes = nodes_named rows name declarations }

-- the variable has another name than this
abbrev pub is_other : List ℕ → Named → Bool
is_other name v = not (bytes_eq name v.name)

-- the variables of the declarations of a scope: the first makes one, to which all declarations of its name belong,
-- and the others make those of other names
abbrev pub gathered : List Row → ℕ → List Declaration → List Named
gathered rows scope [] = []
gathered rows scope (d ∷ ds) =
    variable rows scope d (d ∷ ds) ∷ filter (is_other (name_declared rows d.node)) (gathered rows scope ds)

-- the variables of a scope, in the order of their first declarations
abbrev pub variables_in : List Row → ℕ → List Named
variables_in rows scope = gathered rows scope (declared_in (declarations rows) scope)

-- the variables of so many scopes of a tree
abbrev pub variables_below : List Row → ℕ → List Named
variables_below rows count = flat_map (variables_in rows) (range_with_len 0 count)

-- all variables of a tree, in the order of their scopes
abbrev pub variables : List Row → List Named
variables rows = variables_below rows (length (scopes rows))

-- what is seen of a variable
abbrev pub seen : Variable → Named
seen v = record { name = encode_utf8_all v.name; scope = v.scope; kind = v.kind; nodes = v.nodes }

-- the variable is this scope's, of this name
abbrev pub is_of : ℕ → List ℕ → Named → Bool
is_of scope name v = (v.scope == scope) && bytes_eq name v.name

-- the index of the first variable that passes the test
abbrev pub index_of : (Named → Bool) → List Named → Option ℕ
index_of test [] = None
index_of test (v ∷ vs) = if test v then Some 0 else option_map suc (index_of test vs)

-- the index of the variable of this name in the scope
abbrev pub found_in : List Named → List ℕ → ℕ → Option ℕ
found_in variables name scope = index_of (is_of scope name) variables

-- the variable of this name of the innermost scope, from this one outwards, that has it
abbrev pub resolves : List Scope → List Named → ℕ → List ℕ → Option ℕ
resolves scopes variables scope name = first_some (found_in variables name) (outward scopes scope)
