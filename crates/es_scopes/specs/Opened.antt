-- The scopes that a node opens: what ECMA-262 makes a new Environment Record for (9.1), by its kind.
use Rattle.std.specs.Prelude.{ℕ, Bool, true, false, not, ◌&&◌, List, [], ◌∷◌, ◌++◌, Option, Some, None, if◌then◌else◌}
use Rattle.std.specs.Option.{is_some}
use Rattle.es_tree.specs.declared.field.TheConstants.{ID, VALUE}
use Rattle.es_tree.specs.declared.kind.TheConstants.{BLOCK_STATEMENT, CATCH_CLAUSE, FOR_IN_STATEMENT, FOR_OF_STATEMENT, FOR_STATEMENT, FUNCTION_EXPRESSION, PROGRAM, PROPERTY_DEFINITION, STATIC_BLOCK, SWITCH_STATEMENT}
use Rattle.es_tree.specs.Around.{child, is_one_of, stands_as, stands_in}
use Rattle.es_tree.specs.Kinds.{classes, functions}
use Rattle.es_tree.specs.Rows.{Row}
use Rattle.es_scopes.specs.declared.scope.ScopeKind.{ScopeKind}
use Rattle.es_scopes.specs.declared.scope.ScopeKind.TheVariants.{Program, Function, Block, Switch, For, Catch, Class, Name, StaticBlock, Field}

-- the node is the value of a class field (15.7.10 ClassFieldDefinitionEvaluation)
abbrev pub is_field_value : List Row → ℕ → Bool
is_field_value rows node = stands_as (PROPERTY_DEFINITION ∷ []) VALUE rows node

-- the node is a function expression with a name, of which its body knows (15.2.5)
abbrev pub knows_its_name : List Row → ℕ → Bool
knows_its_name rows node = is_one_of (FUNCTION_EXPRESSION ∷ []) rows node && is_some (child rows node ID)

-- the node is a block that isn't the body of a function (14.2.2)
abbrev pub is_block : List Row → ℕ → Bool
is_block rows node = is_one_of (BLOCK_STATEMENT ∷ []) rows node && not (stands_in functions rows node)

-- the scope that a node opens by its kind: that of a function has its parameters, too, that of a class has its own
-- name, and all cases of a switch have one (10.2.11, 14.7.4.2, 14.7.5.6, 14.12.2, 14.15.2, 15.7.11, 15.7.14, 16.1.6)
abbrev pub kind_scope : List Row → ℕ → Option ScopeKind
kind_scope rows node =
    if is_one_of (PROGRAM ∷ []) rows node then Some Program
    else (if is_one_of functions rows node then Some Function
    else (if is_block rows node then Some Block
    else (if is_one_of (SWITCH_STATEMENT ∷ []) rows node then Some Switch
    else (if is_one_of (FOR_STATEMENT ∷ FOR_IN_STATEMENT ∷ FOR_OF_STATEMENT ∷ []) rows node then Some For
    else (if is_one_of (CATCH_CLAUSE ∷ []) rows node then Some Catch
    else (if is_one_of classes rows node then Some Class
    else (if is_one_of (STATIC_BLOCK ∷ []) rows node then Some StaticBlock
    else None)))))))

-- a list of this scope, if there is one
abbrev pub listed : Option ScopeKind → List ScopeKind
listed None = []
listed (Some kind) = kind ∷ []

-- the scope of this kind, if the test passes
abbrev pub if_opened : Bool → ScopeKind → Option ScopeKind
if_opened opens kind = if opens then Some kind else None

-- the scope of a class field that its value opens
abbrev pub field_scope : List Row → ℕ → List ScopeKind
field_scope rows node = listed (if_opened (is_field_value rows node) Field)

-- the scopes that a node opens apart from a field's
abbrev pub own_scopes : List Row → ℕ → List ScopeKind
own_scopes rows node = listed (if_opened (knows_its_name rows node) Name) ++ listed (kind_scope rows node)

-- the scopes that a node opens, the outer first
abbrev pub opened : List Row → ℕ → List ScopeKind
opened rows node = field_scope rows node ++ own_scopes rows node

-- the scope is one that `var` doesn't leave (8.2.6 VarDeclaredNames)
abbrev pub holds_vars : ScopeKind → Bool
holds_vars Program = true
holds_vars Function = true
holds_vars StaticBlock = true
holds_vars Field = true
holds_vars Block = false
holds_vars Switch = false
holds_vars For = false
holds_vars Catch = false
holds_vars Class = false
holds_vars Name = false
