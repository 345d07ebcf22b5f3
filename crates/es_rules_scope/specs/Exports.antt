-- What a module exports (ECMA-262, 16.2.3): the variables that its lists of exports name, and those that its export
-- declarations declare.
use Rattle.std.specs.Prelude.{ℕ, Bool, false, ◌&&◌, is_none, List, [], ◌∷◌, length, Option, None, find, if◌then◌else◌}
use Rattle.std.specs.List.{flat_map, range_with_len}
use Rattle.std.specs.Option.{option_map_or}
use Rattle.es_tree.specs.declared.kind.TheConstants.{CLASS_DECLARATION, EXPORT_DEFAULT_DECLARATION, EXPORT_NAMED_DECLARATION, EXPORT_SPECIFIER, FUNCTION_DECLARATION, IDENTIFIER, VARIABLE_DECLARATION}
use Rattle.es_tree.specs.Around.{ancestors, child, is_one_of, parent, stands_in}
use Rattle.es_tree.specs.Rows.{Row}
use Rattle.es_scopes.specs.Declarations.{some_list, with_some}
use Rattle.es_scopes.specs.Variables.{resolves}
use Rattle.es_host.specs.Files.{File, rows_in}
use Rattle.es_rules_scope.specs.declared.field.TheConstants.{EXPORTED_LOCAL, SOURCE}
use Rattle.es_rules_scope.specs.Names.{name_at}

-- the innermost declaration around a name is an export's: that is what declares a name of a declarator, a function or a
-- class, around which no other stands inside of it
abbrev pub is_exported : List Row → ℕ → Bool
is_exported rows node =
    option_map_or (stands_in (EXPORT_NAMED_DECLARATION ∷ EXPORT_DEFAULT_DECLARATION ∷ []) rows)
    (find (is_one_of (VARIABLE_DECLARATION ∷ FUNCTION_DECLARATION ∷ CLASS_DECLARATION ∷ []) rows) (ancestors rows node)) false

-- the node has no module from which it takes names
abbrev pub is_without_source : List Row → ℕ → Bool
is_without_source rows node = is_none (child rows node SOURCE)

-- the node is an entry of a list of exports of this module's own names
abbrev pub is_entry : List Row → ℕ → Bool
is_entry rows node =
    is_one_of (EXPORT_SPECIFIER ∷ []) rows node && option_map_or (is_without_source rows) (parent rows node) false

-- the variable of the Program that the local name of an entry names; a text names none
abbrev pub listed_by : File → ℕ → Option ℕ
listed_by file local =
    if is_one_of (IDENTIFIER ∷ []) (rows_in file) local
    then resolves file.scopes.scopes file.scopes.variables 0 (name_at (rows_in file) local)
    else None

abbrev pub listed_at : File → ℕ → List ℕ
listed_at file node =
    if is_entry (rows_in file) node then some_list (with_some (child (rows_in file) node EXPORTED_LOCAL) (listed_by file)) else []

-- the variables that lists of exports name
abbrev pub listed : File → List ℕ
listed file = flat_map (listed_at file) (range_with_len 0 (length (rows_in file)))
