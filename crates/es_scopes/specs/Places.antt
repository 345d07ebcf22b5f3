-- The scope in which each node stands, and the scope around each scope. Scopes have numbers from 0 in the order of
-- their nodes, and of one node's the outer comes first.
use Rattle.std.specs.Prelude.{ℕ, ◌+◌, Bool, true, false, ◌||◌, List, [], ◌∷◌, length, Option, Some, None, unwrap_or, if◌then◌else◌}
use Rattle.std.specs.List.{flat_map, range_with_len}
use Rattle.es_tree.specs.declared.field.TheConstants.{ID}
use Rattle.es_tree.specs.declared.kind.TheConstants.{FUNCTION_DECLARATION, FUNCTION_EXPRESSION, SWITCH_STATEMENT}
use Rattle.es_tree.specs.Around.{ancestors, parent, stands_as}
use Rattle.es_tree.specs.Kinds.{classes}
use Rattle.es_tree.specs.Rows.{Row}
use Rattle.es_scopes.specs.declared.field.TheConstants.{DISCRIMINANT}
use Rattle.es_scopes.specs.declared.scope.Scope.{Scope}
use Rattle.es_scopes.specs.declared.scope.ScopeKind.{ScopeKind}
use Rattle.es_scopes.specs.Opened.{field_scope, is_field_value, opened}

-- the number of the first scope that a node opens: so many are opened by the nodes before it
abbrev pub first_scope : List Row → ℕ → ℕ
first_scope rows node = length (flat_map (opened rows) (range_with_len 0 node))

-- the first scope that a node opens, behind that of a field whose value it is
abbrev pub own_scope : List Row → ℕ → ℕ
own_scope rows node = first_scope rows node + length (field_scope rows node)

-- the innermost of these scopes, the first of which has this number, or the one around where there are none
abbrev pub innermost : Option ℕ → ℕ → List ScopeKind → Option ℕ
innermost around first [] = around
innermost around first (kind ∷ inner) = Some (first + length inner)

-- the node stands outside of the scopes that its parent opens: what a switch decides on, and the name of a function
-- or class
abbrev pub is_left_out : List Row → ℕ → Bool
is_left_out rows node =
    stands_as (SWITCH_STATEMENT ∷ []) DISCRIMINANT rows node
    || (stands_as (FUNCTION_DECLARATION ∷ FUNCTION_EXPRESSION ∷ []) ID rows node || stands_as classes ID rows node)

-- the field's scope, if the node is a field's value, in which this stands itself; else what is around
abbrev pub in_field : List Row → ℕ → Option ℕ → Option ℕ
in_field rows node around = if is_field_value rows node then Some (first_scope rows node) else around

-- the innermost scope that a node opens and that holds a child, which may be left out
abbrev pub holding : List Row → Bool → Option ℕ → Option ℕ
holding rows out None = None
holding rows true (Some above) = in_field rows above None
holding rows false (Some above) = innermost None (first_scope rows above) (opened rows above)

-- the innermost scope that the node's parent opens and that holds the node
abbrev pub holder : List Row → ℕ → Option ℕ
holder rows node = holding rows (is_left_out rows node) (parent rows node)

-- the first of what is found
abbrev pub or_else : Option ℕ → Option ℕ → Option ℕ
or_else None other = other
or_else (Some found) other = Some found

-- the first that is found on a list
abbrev pub first_some : (ℕ → Option ℕ) → List ℕ → Option ℕ
first_some found [] = None
first_some found (node ∷ nodes) = or_else (found node) (first_some found nodes)

-- the innermost scope that holds a node, apart from those that it opens
abbrev pub around : List Row → ℕ → Option ℕ
around rows node = first_some (holder rows) (node ∷ ancestors rows node)

-- the innermost scope that holds a node; none holds the Program
abbrev pub stands : List Row → ℕ → Option ℕ
stands rows node = in_field rows node (around rows node)

-- the innermost scope of what stands in the node
abbrev pub inside : List Row → ℕ → Option ℕ
inside rows node = innermost (around rows node) (first_scope rows node) (opened rows node)

-- the innermost scope that holds a node, for the Program its own
abbrev pub scope_of : List Row → ℕ → ℕ
scope_of rows node = unwrap_or (stands rows node) 0

-- these scopes, the first of which has this number, each in the one before, and the first in the one around
abbrev pub nested : Option ℕ → ℕ → List ScopeKind → List Scope
nested around first [] = []
nested around first (kind ∷ inner) = record { kind = kind; parent = around } ∷ nested (Some first) (first + 1) inner

-- the scopes that a node opens, the outer first
abbrev pub scopes_at : List Row → ℕ → List Scope
scopes_at rows node = nested (around rows node) (first_scope rows node) (opened rows node)

-- all scopes of a tree, by their numbers
abbrev pub scopes : List Row → List Scope
scopes rows = flat_map (scopes_at rows) (range_with_len 0 (length rows))
