-- A name that is declared twice in a scope, once at least by `let`, `const`, `class` or `import`
-- (ECMA-262, 14.2.1, 14.3.1.1, 14.7.4.1, 14.7.5.1, 14.12.1, 14.15.1, 15.2.1, 16.1.1 and 16.2.1.1), by 8.2.1
-- BoundNames, 8.2.4 LexicallyDeclaredNames and 8.2.6 VarDeclaredNames.
use Rattle.std.specs.Prelude.{ℕ, ◌<◌, Bool, true, false, not, ◌&&◌, ◌||◌, ◌==◌, List, [], ◌∷◌, Option, Some, None, IsTrue, filter, find, codes, if◌then◌else◌}
use Rattle.std.specs.List.{list_any}
use Rattle.es_tree.specs.declared.kind.TheConstants.{ARRAY_PATTERN, ARROW_FUNCTION_EXPRESSION, ASSIGNMENT_PATTERN, BLOCK_STATEMENT, CATCH_CLAUSE, CLASS_DECLARATION, FOR_IN_STATEMENT, FOR_OF_STATEMENT, FOR_STATEMENT, FUNCTION_DECLARATION, FUNCTION_EXPRESSION, IDENTIFIER, IMPORT_DEFAULT_SPECIFIER, IMPORT_NAMESPACE_SPECIFIER, IMPORT_SPECIFIER, OBJECT_PATTERN, PROGRAM, PROPERTY, REST_ELEMENT, STATIC_BLOCK, SWITCH_STATEMENT, VARIABLE_DECLARATOR}
use Rattle.es_tree.specs.Rows.{Row}
use Rattle.es_tree.specs.Around.{ancestors, is_one_of, is_text, parent, same_name, stands_as, stands_in, words_of}
use Rattle.es_early.specs.Supers.{if_some, plain_functions}
use Rattle.es_early.specs.declared.binding.Binding.{Binding}
use Rattle.es_early.specs.declared.binding.Binding.TheVariants.{Lexical, Var, Function, Parameter, Nothing}
use Rattle.es_tree.specs.declared.field.TheConstants.{ARROW_BODY, CATCH_PARAMETER, DECLARATION_KIND, FUNCTION_BODY, ID, IMPORTED_LOCAL, LEFT, LOCAL, VALUE}

-- the node is a part of a pattern around it that BoundNames goes into
abbrev pub is_pattern_part : List Row → ℕ → Bool
is_pattern_part rows node =
    stands_in (ARRAY_PATTERN ∷ OBJECT_PATTERN ∷ REST_ELEMENT ∷ []) rows node
    || (stands_as (PROPERTY ∷ []) VALUE rows node || stands_as (ASSIGNMENT_PATTERN ∷ []) LEFT rows node)

-- the whole pattern whose part the node is, which is the node itself where it is part of none
abbrev pub pattern_around : List Row → ℕ → Option ℕ
pattern_around rows node = find (λ around. not (is_pattern_part rows around)) (node ∷ ancestors rows node)

-- the pattern is what a declarator binds
abbrev pub is_declared : List Row → ℕ → Bool
is_declared rows pattern = stands_as (VARIABLE_DECLARATOR ∷ []) ID rows pattern

-- a declaration of variables is one by `var`, and not by `let` or `const`
abbrev pub is_var : List Row → ℕ → Bool
is_var rows declaration = is_text (words_of rows declaration DECLARATION_KIND) (codes "var")

-- the declarator is one of a declaration by `var`
abbrev pub is_var_declarator : List Row → ℕ → Bool
is_var_declarator rows declarator = if_some (is_var rows) (parent rows declarator)

-- the pattern is a parameter: what a function has beside its name and its body
abbrev pub is_parameter : List Row → ℕ → Bool
is_parameter rows pattern =
    (stands_in plain_functions rows pattern
    && not (stands_as plain_functions ID rows pattern || stands_as plain_functions FUNCTION_BODY rows pattern))
    || (stands_in (ARROW_FUNCTION_EXPRESSION ∷ []) rows pattern
    && not (stands_as (ARROW_FUNCTION_EXPRESSION ∷ []) ARROW_BODY rows pattern))

abbrev pub is_catch_parameter : List Row → ℕ → Bool
is_catch_parameter rows pattern = stands_as (CATCH_CLAUSE ∷ []) CATCH_PARAMETER rows pattern

-- the node is the name of a class declaration, or a name that an import binds
abbrev pub is_class_or_import : List Row → ℕ → Bool
is_class_or_import rows node =
    stands_as (CLASS_DECLARATION ∷ []) ID rows node
    || (stands_as (IMPORT_SPECIFIER ∷ []) IMPORTED_LOCAL rows node
    || stands_as (IMPORT_DEFAULT_SPECIFIER ∷ IMPORT_NAMESPACE_SPECIFIER ∷ []) LOCAL rows node)

abbrev pub is_function_name : List Row → ℕ → Bool
is_function_name rows node = stands_as (FUNCTION_DECLARATION ∷ []) ID rows node

-- what the whole pattern around a name declares
abbrev pub pattern_declares : List Row → ℕ → Binding
pattern_declares rows pattern =
    if is_declared rows pattern then (if if_some (is_var_declarator rows) (parent rows pattern) then Var else Lexical)
    else (if is_parameter rows pattern || is_catch_parameter rows pattern then Parameter else Nothing)

-- what a pattern declares that may be missing
abbrev pub some_pattern_declares : List Row → Option ℕ → Binding
some_pattern_declares rows None = Nothing
some_pattern_declares rows (Some pattern) = pattern_declares rows pattern

-- what an Identifier declares by its name
abbrev pub named_binding : List Row → ℕ → Binding
named_binding rows node =
    if is_class_or_import rows node then Lexical
    else (if is_function_name rows node then Function else some_pattern_declares rows (pattern_around rows node))

-- what the node, if it is an Identifier, declares by its name
abbrev pub binding_of : List Row → ℕ → Binding
binding_of rows node = if is_one_of (IDENTIFIER ∷ []) rows node then named_binding rows node else Nothing

-- a function's body or that of a `catch` is no scope beside the function or the CatchClause, so that
-- parameters count in it
abbrev pub is_body : List Row → ℕ → Bool
is_body rows block =
    stands_in (FUNCTION_DECLARATION ∷ FUNCTION_EXPRESSION ∷ ARROW_FUNCTION_EXPRESSION ∷ CATCH_CLAUSE ∷ []) rows block

-- the node is a scope in which names can be declared; all cases of a switch are one
abbrev pub is_scope : List Row → ℕ → Bool
is_scope rows node =
    is_one_of (PROGRAM ∷ STATIC_BLOCK ∷ FUNCTION_DECLARATION ∷ FUNCTION_EXPRESSION ∷ ARROW_FUNCTION_EXPRESSION ∷ CATCH_CLAUSE ∷ SWITCH_STATEMENT ∷ FOR_STATEMENT ∷ FOR_IN_STATEMENT ∷ FOR_OF_STATEMENT ∷ []) rows node
    || (is_one_of (BLOCK_STATEMENT ∷ []) rows node && not (is_body rows node))

-- the scope is one that `var` doesn't leave
abbrev pub is_var_scope : List Row → ℕ → Bool
is_var_scope rows scope =
    is_one_of (PROGRAM ∷ STATIC_BLOCK ∷ FUNCTION_DECLARATION ∷ FUNCTION_EXPRESSION ∷ ARROW_FUNCTION_EXPRESSION ∷ []) rows scope

-- the innermost scope around a node
abbrev pub scope_around : List Row → ℕ → Option ℕ
scope_around rows node = find (is_scope rows) (ancestors rows node)

-- the innermost scope around a node that may be missing
abbrev pub scope_around_some : List Row → Option ℕ → Option ℕ
scope_around_some rows None = None
scope_around_some rows (Some node) = scope_around rows node

-- these nodes out to the first that `var` doesn't leave
abbrev pub out_to_function : List Row → List ℕ → List ℕ
out_to_function rows [] = []
out_to_function rows (node ∷ nodes) = node ∷ (if is_var_scope rows node then [] else out_to_function rows nodes)

-- all scopes around a node out to that of its function
abbrev pub scopes_in_function : List Row → ℕ → List ℕ
scopes_in_function rows node = filter (is_scope rows) (out_to_function rows (ancestors rows node))

-- a list of the node, if there is one
abbrev pub listed : Option ℕ → List ℕ
listed None = []
listed (Some node) = node ∷ []

-- the scopes in which a name counts that this declares; the name of a function is declared outside of
-- the function
abbrev pub counts_in : List Row → ℕ → Binding → List ℕ
counts_in rows node Lexical = listed (scope_around rows node)
counts_in rows node Var = scopes_in_function rows node
counts_in rows node Function = listed (scope_around_some rows (parent rows node))
counts_in rows node Parameter = listed (scope_around rows node)
counts_in rows node Nothing = []

-- the scopes in which the node declares its name
abbrev pub declared_in : List Row → ℕ → List ℕ
declared_in rows node = counts_in rows node (binding_of rows node)

abbrev pub is_lexical_binding : Binding → Bool
is_lexical_binding Lexical = true
is_lexical_binding Var = false
is_lexical_binding Function = false
is_lexical_binding Parameter = false
is_lexical_binding Nothing = false

-- the node declares a name by `let`, `const`, `class` or `import`
abbrev pub is_lexical : List Row → ℕ → Bool
is_lexical rows node = is_lexical_binding (binding_of rows node)

-- the node declares in this scope
abbrev pub declares : List Row → ℕ → ℕ → Bool
declares rows scope node = list_any (λ s. s == scope) (declared_in rows node)

-- the node declares a name in a scope in which an earlier one declares it, one of them by `let`, `const`,
-- `class` or `import`
pub record IsRedeclared (rows : List Row) (node : ℕ) : Type 0 where
  pub other : ℕ
  pub before : other < node
  pub same : IsTrue (same_name rows other node)
  pub scope : ℕ
  pub first : IsTrue (declares rows scope other)
  pub later : IsTrue (declares rows scope node)
  pub lexical : IsTrue (is_lexical rows other || is_lexical rows node)
