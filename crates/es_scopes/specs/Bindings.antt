-- What an Identifier declares: 8.2.1 BoundNames, and what the declaration around it is.
use Rattle.std.specs.Prelude.{ℕ, Bool, false, not, ◌&&◌, ◌||◌, List, [], ◌∷◌, Option, Some, None, find, codes, if◌then◌else◌}
use Rattle.es_tree.specs.declared.field.TheConstants.{ARROW_BODY, CATCH_PARAMETER, DECLARATION_KIND, FUNCTION_BODY, ID, IMPORTED_LOCAL, LEFT, LOCAL, VALUE}
use Rattle.es_tree.specs.declared.kind.TheConstants.{ARRAY_PATTERN, ARROW_FUNCTION_EXPRESSION, ASSIGNMENT_PATTERN, CATCH_CLAUSE, CLASS_DECLARATION, FUNCTION_DECLARATION, FUNCTION_EXPRESSION, IMPORT_DEFAULT_SPECIFIER, IMPORT_NAMESPACE_SPECIFIER, IMPORT_SPECIFIER, OBJECT_PATTERN, PROPERTY, REST_ELEMENT, VARIABLE_DECLARATOR}
use Rattle.es_tree.specs.Around.{ancestors, is_text, parent, stands_as, stands_in, words_of}
use Rattle.es_tree.specs.Rows.{Row}
use Rattle.es_scopes.specs.declared.binding.DeclarationKind.{DeclarationKind}
use Rattle.es_scopes.specs.declared.binding.DeclarationKind.TheVariants.{Var, Let, Const, Function, Class, Import, Param, Catch}

-- the node is a part of a pattern around it
abbrev pub is_pattern_part : List Row → ℕ → Bool
is_pattern_part rows node =
    stands_in (ARRAY_PATTERN ∷ OBJECT_PATTERN ∷ REST_ELEMENT ∷ []) rows node
    || (stands_as (PROPERTY ∷ []) VALUE rows node || stands_as (ASSIGNMENT_PATTERN ∷ []) LEFT rows node)

-- the whole pattern whose part the node is, which is the node itself where it is part of none
abbrev pub pattern_around : List Row → ℕ → Option ℕ
pattern_around rows node = find (λ around. not (is_pattern_part rows around)) (node ∷ ancestors rows node)

abbrev pub plain_functions : List ℕ
plain_functions = FUNCTION_DECLARATION ∷ FUNCTION_EXPRESSION ∷ []

-- the pattern is a parameter: what a function has beside its name and its body
abbrev pub is_parameter : List Row → ℕ → Bool
is_parameter rows pattern =
    (stands_in plain_functions rows pattern
    && not (stands_as plain_functions ID rows pattern || stands_as plain_functions FUNCTION_BODY rows pattern))
    || (stands_in (ARROW_FUNCTION_EXPRESSION ∷ []) rows pattern
    && not (stands_as (ARROW_FUNCTION_EXPRESSION ∷ []) ARROW_BODY rows pattern))

-- a node that may be missing passes a test
abbrev pub if_some : (ℕ → Bool) → Option ℕ → Bool
if_some test None = false
if_some test (Some node) = test node

-- the declaration is by this word
abbrev pub is_by : List ℕ → List Row → ℕ → Bool
is_by word rows declaration = is_text (words_of rows declaration DECLARATION_KIND) word

-- the declarator is one of a declaration by this word
abbrev pub is_declared_by : List ℕ → List Row → ℕ → Bool
is_declared_by word rows declarator = if_some (is_by word rows) (parent rows declarator)

-- what a declarator declares (14.3)
abbrev pub declarator_kind : List Row → Option ℕ → DeclarationKind
declarator_kind rows declarator =
    if if_some (is_declared_by (codes "var") rows) declarator then Var
    else (if if_some (is_declared_by (codes "let") rows) declarator then Let
    else Const)

-- what a whole pattern declares: the names of a declarator, of a parameter or of the parameter of a `catch`
abbrev pub pattern_kind : List Row → ℕ → Option DeclarationKind
pattern_kind rows pattern =
    if stands_as (VARIABLE_DECLARATOR ∷ []) ID rows pattern then Some (declarator_kind rows (parent rows pattern))
    else (if is_parameter rows pattern then Some Param
    else (if stands_as (CATCH_CLAUSE ∷ []) CATCH_PARAMETER rows pattern then Some Catch
    else None))

-- what a pattern declares that may be missing
abbrev pub some_pattern_kind : List Row → Option ℕ → Option DeclarationKind
some_pattern_kind rows None = None
some_pattern_kind rows (Some pattern) = pattern_kind rows pattern

-- the node is a name that an import binds (16.2.2)
abbrev pub is_imported : List Row → ℕ → Bool
is_imported rows node =
    stands_as (IMPORT_SPECIFIER ∷ []) IMPORTED_LOCAL rows node
    || stands_as (IMPORT_DEFAULT_SPECIFIER ∷ IMPORT_NAMESPACE_SPECIFIER ∷ []) LOCAL rows node

-- what an Identifier declares outside of what it names
abbrev pub kind_declared : List Row → ℕ → Option DeclarationKind
kind_declared rows node =
    if stands_as (CLASS_DECLARATION ∷ []) ID rows node then Some Class
    else (if stands_as (FUNCTION_DECLARATION ∷ []) ID rows node then Some Function
    else (if is_imported rows node then Some Import
    else some_pattern_kind rows (pattern_around rows node)))
