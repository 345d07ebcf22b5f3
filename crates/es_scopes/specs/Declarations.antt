-- Where each name of a tree is declared.
use Rattle.std.specs.Prelude.{ℕ, Bool, ◌||◌, ◌==◌, List, [], ◌∷◌, ◌++◌, length, Option, Some, None, codes, filter, map, option_map, unwrap_or, if◌then◌else◌}
use Rattle.std.specs.List.{flat_map, range_with_len}
use Rattle.std.specs.Str.{bytes_eq}
use Rattle.es_tree.specs.declared.field.TheConstants.{ID}
use Rattle.es_tree.specs.declared.kind.TheConstants.{FUNCTION_EXPRESSION, IDENTIFIER}
use Rattle.es_tree.specs.Around.{is_one_of, name_of, parent, stands_as}
use Rattle.es_tree.specs.Kinds.{classes}
use Rattle.es_tree.specs.Rows.{Row}
use Rattle.es_scopes.specs.declared.binding.DeclarationKind.{DeclarationKind}
use Rattle.es_scopes.specs.declared.declarations.Declaration.{Declaration}
use Rattle.es_scopes.specs.declared.scope.Scope.{Scope}
use Rattle.es_scopes.specs.declared.binding.DeclarationKind.TheVariants.{Var, Let, Const, Function, Class, Import, Param, Catch, Arguments, Own}
use Rattle.es_scopes.specs.Bindings.{kind_declared, plain_functions}
use Rattle.es_scopes.specs.Chains.{home}
use Rattle.es_scopes.specs.Places.{inside, own_scope, scopes, stands}

-- the scope out to which a declaration of this kind goes from the one in which its Identifier stands: a `var` out to
-- the function, static block, field or Program, any other stays
abbrev pub out_to : List Scope → DeclarationKind → ℕ → Option ℕ
out_to scopes Var scope = home scopes scope
out_to scopes Let scope = Some scope
out_to scopes Const scope = Some scope
out_to scopes Function scope = Some scope
out_to scopes Class scope = Some scope
out_to scopes Import scope = Some scope
out_to scopes Param scope = Some scope
out_to scopes Catch scope = Some scope
out_to scopes Arguments scope = Some scope
out_to scopes Own scope = Some scope

-- of what stands there, if anything does
abbrev pub with_some : {A B : Type 0} → Option A → (A → Option B) → Option B
with_some None after = None
with_some (Some value) after = after value

-- a list of what is there
abbrev pub some_list : {A : Type 0} → Option A → List A
some_list None = []
some_list (Some value) = value ∷ []

-- the declaration of this kind by a node, in a scope that may be missing
abbrev pub in_scope : DeclarationKind → Option ℕ → Option ℕ → Option Declaration
in_scope kind node scope = option_map (λ s. record { scope = s; kind = kind; node = node }) scope

-- what an Identifier declares where it stands
abbrev pub declared_outside : List Row → ℕ → Option Declaration
declared_outside rows node =
    with_some (kind_declared rows node) (λ kind. in_scope kind (Some node) (with_some (stands rows node) (out_to (scopes rows) kind)))

-- the node names a class or a function expression, which knows its own name
abbrev pub names_inside : List Row → ℕ → Bool
names_inside rows node = stands_as classes ID rows node || stands_as (FUNCTION_EXPRESSION ∷ []) ID rows node

-- what the name of a class or function expression declares inside of that
abbrev pub declared_inside : List Row → ℕ → Option Declaration
declared_inside rows node =
    if names_inside rows node then in_scope Own (Some node) (option_map (own_scope rows) (parent rows node)) else None

-- what a function that isn't an arrow function declares by itself (10.2.11, argumentsObjectNeeded)
abbrev pub declared_arguments : List Row → ℕ → Option Declaration
declared_arguments rows node =
    if is_one_of plain_functions rows node then in_scope Arguments None (inside rows node) else None

-- what the node declares
abbrev pub declared_at : List Row → ℕ → List Declaration
declared_at rows node =
    some_list (declared_arguments rows node)
    ++ (if is_one_of (IDENTIFIER ∷ []) rows node then some_list (declared_outside rows node) ++ some_list (declared_inside rows node) else [])

-- all that the nodes before this one declare, in their order
abbrev pub declared_before : List Row → ℕ → List Declaration
declared_before rows node = flat_map (declared_at rows) (range_with_len 0 node)

-- all that is declared in a tree, in the order of the declaring nodes
abbrev pub declarations : List Row → List Declaration
declarations rows = declared_before rows (length rows)

-- what is declared in the scope
abbrev pub declared_in : List Declaration → ℕ → List Declaration
declared_in declarations scope = filter (λ d. d.scope == scope) declarations

-- for each of so many scopes what is declared in it
abbrev pub by_scope : ℕ → List Declaration → List (List Declaration)
by_scope count declarations = map (declared_in declarations) (range_with_len 0 count)

-- the name that is declared, in UTF-8
abbrev pub name_declared : List Row → Option ℕ → List ℕ
name_declared rows None = codes "arguments"
name_declared rows (Some node) = unwrap_or (name_of rows node) []

-- the declaration is of this name
abbrev pub is_named : List Row → List ℕ → Declaration → Bool
is_named rows name d = bytes_eq name (name_declared rows d.node)
