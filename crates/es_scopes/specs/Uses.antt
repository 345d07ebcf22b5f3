-- Which Identifiers are references, and whether they read and write.
use Rattle.std.specs.Prelude.{ℕ, Bool, not, ◌&&◌, ◌||◌, List, [], ◌∷◌, length, Option, Some, None, codes, if◌then◌else◌}
use Rattle.std.specs.List.{flat_map, range_with_len}
use Rattle.std.specs.Option.{is_some}
use Rattle.es_tree.specs.declared.field.TheConstants.{ID, KEY, LABEL, LEFT}
use Rattle.es_tree.specs.declared.kind.TheConstants.{ASSIGNMENT_EXPRESSION, BREAK_STATEMENT, CONTINUE_STATEMENT, EXPORT_ALL_DECLARATION, EXPORT_SPECIFIER, FOR_IN_STATEMENT, FOR_OF_STATEMENT, IDENTIFIER, IMPORT_DEFAULT_SPECIFIER, IMPORT_NAMESPACE_SPECIFIER, IMPORT_SPECIFIER, LABELED_STATEMENT, MEMBER_EXPRESSION, META_PROPERTY, METHOD_DEFINITION, PROPERTY, PROPERTY_DEFINITION, UPDATE_EXPRESSION, VARIABLE_DECLARATOR}
use Rattle.es_tree.specs.Around.{child, is_one_of, is_set, is_text, name_of, parent, stands_as, stands_in, words_of}
use Rattle.es_tree.specs.Kinds.{classes}
use Rattle.es_tree.specs.Rows.{Row}
use Rattle.es_scopes.specs.declared.field.TheConstants.{ARGUMENT, FIELD_COMPUTED, INIT, MEMBER_COMPUTED, MEMBER_PROPERTY, METHOD_COMPUTED, OPERATOR, PROPERTY_COMPUTED}
use Rattle.es_scopes.specs.declared.uses.Reference.{Reference}
use Rattle.es_scopes.specs.declared.uses.Use.{Use}
use Rattle.es_scopes.specs.Bindings.{if_some, pattern_around, pattern_kind, plain_functions}
use Rattle.es_scopes.specs.Places.{scope_of, scopes}
use Rattle.es_scopes.specs.Variables.{resolves, variables}

-- the node stands in this field of a node of this kind, as a name and not as an expression in brackets
abbrev pub is_fixed : ℕ → ℕ → ℕ → List Row → ℕ → Bool
is_fixed kind field computed rows node =
    stands_as (kind ∷ []) field rows node && not (if_some (λ above. is_set rows above computed) (parent rows node))

-- the node is a key or the name of a property
abbrev pub is_key : List Row → ℕ → Bool
is_key rows node =
    is_fixed PROPERTY KEY PROPERTY_COMPUTED rows node
    || (is_fixed MEMBER_EXPRESSION MEMBER_PROPERTY MEMBER_COMPUTED rows node
    || (is_fixed METHOD_DEFINITION KEY METHOD_COMPUTED rows node
    || is_fixed PROPERTY_DEFINITION KEY FIELD_COMPUTED rows node))

-- the node is the name of a function or class
abbrev pub is_name : List Row → ℕ → Bool
is_name rows node = stands_as plain_functions ID rows node || stands_as classes ID rows node

-- the node is a label
abbrev pub is_label : List Row → ℕ → Bool
is_label rows node = stands_as (LABELED_STATEMENT ∷ BREAK_STATEMENT ∷ CONTINUE_STATEMENT ∷ []) LABEL rows node

-- the node is a part of a MetaProperty, of a specifier or of `export *`
abbrev pub is_specified : List Row → ℕ → Bool
is_specified rows node =
    stands_in (META_PROPERTY ∷ IMPORT_SPECIFIER ∷ IMPORT_DEFAULT_SPECIFIER ∷ IMPORT_NAMESPACE_SPECIFIER ∷ EXPORT_SPECIFIER ∷ EXPORT_ALL_DECLARATION ∷ []) rows node

-- the Identifier is neither an expression nor a part of a pattern
abbrev pub is_bare : List Row → ℕ → Bool
is_bare rows node = is_key rows node || (is_name rows node || (is_label rows node || is_specified rows node))

-- the node is the left side of a for-in or for-of statement
abbrev pub is_head : List Row → ℕ → Bool
is_head rows node = stands_as (FOR_IN_STATEMENT ∷ FOR_OF_STATEMENT ∷ []) LEFT rows node

-- the pattern is what is assigned to (13.4, 13.15, 14.7.5)
abbrev pub is_assigned : List Row → ℕ → Bool
is_assigned rows pattern =
    stands_as (ASSIGNMENT_EXPRESSION ∷ []) LEFT rows pattern
    || (stands_as (UPDATE_EXPRESSION ∷ []) ARGUMENT rows pattern || is_head rows pattern)

-- the assignment is by `=` alone
abbrev pub is_plain : List Row → ℕ → Bool
is_plain rows assignment = is_text (words_of rows assignment OPERATOR) (codes "=")

-- what is assigned to is read before, as by `+=` and `++`
abbrev pub is_updated : List Row → ℕ → Bool
is_updated rows pattern =
    stands_as (UPDATE_EXPRESSION ∷ []) ARGUMENT rows pattern
    || (stands_as (ASSIGNMENT_EXPRESSION ∷ []) LEFT rows pattern && not (if_some (is_plain rows) (parent rows pattern)))

-- the declarator has a value, or gets one from its for-in or for-of statement
abbrev pub is_valued : List Row → ℕ → Bool
is_valued rows declarator = is_some (child rows declarator INIT) || if_some (is_head rows) (parent rows declarator)

-- the pattern is what such a declarator declares
abbrev pub is_given : List Row → ℕ → Bool
is_given rows pattern = stands_as (VARIABLE_DECLARATOR ∷ []) ID rows pattern && if_some (is_valued rows) (parent rows pattern)

-- how a whole pattern's names are used: what is declared isn't read
abbrev pub pattern_use : List Row → ℕ → Use
pattern_use rows pattern = record {
  read = not (is_some (pattern_kind rows pattern)) && (not (is_assigned rows pattern) || is_updated rows pattern);
  write = is_assigned rows pattern || is_given rows pattern;
}

-- a use of a pattern that may be missing, if it is any
abbrev pub some_use : List Row → Option ℕ → Option Use
some_use rows None = None
some_use rows (Some pattern) =
    let found = pattern_use rows pattern in if found.read || found.write then Some found else None

-- how the node, if it is an Identifier, is used
abbrev pub use_of : List Row → ℕ → Option Use
use_of rows node =
    if is_one_of (IDENTIFIER ∷ []) rows node && not (is_bare rows node) then some_use rows (pattern_around rows node) else None

-- the variable that a name resolves to from where the node stands
abbrev pub variable_of : List Row → ℕ → Option (List ℕ) → Option ℕ
variable_of rows node None = None
variable_of rows node (Some name) = resolves (scopes rows) (variables rows) (scope_of rows node) name

-- the reference that a node is, if it is used
abbrev pub referring : List Row → ℕ → Option Use → List Reference
referring rows node None = []
referring rows node (Some found) = record { node = node; read = found.read; write = found.write; variable = variable_of rows node (name_of rows node) } ∷ []

abbrev pub reference_at : List Row → ℕ → List Reference
reference_at rows node = referring rows node (use_of rows node)

-- all references of a tree, in the order of their nodes
abbrev pub references : List Row → List Reference
references rows = flat_map (reference_at rows) (range_with_len 0 (length rows))
