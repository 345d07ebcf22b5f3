-- no-undef: a reference whose name no scope around has, and no global variable is called, but the operand of `typeof`,
-- which evaluates a name that isn't there, too (ECMA-262, 13.5.3).
use Rattle.std.specs.Prelude.{ℕ, Bool, false, not, ◌&&◌, is_none, List, [], ◌∷◌, codes, if◌then◌else◌}
use Rattle.std.specs.List.{flat_map}
use Rattle.std.specs.Option.{option_map_or}
use Rattle.es_text.specs.declared.finding.Finding.{Finding}
use Rattle.es_tree.specs.declared.kind.TheConstants.{UNARY_EXPRESSION}
use Rattle.es_tree.specs.Around.{is_one_of, is_text, parent, words_of}
use Rattle.es_tree.specs.Rows.{Row}
use Rattle.es_scopes.specs.declared.uses.Reference.{Reference}
use Rattle.es_host.specs.Files.{File, rows_in}
use Rattle.es_host.specs.Nodes.{SimpleFileMeaning}
use Rattle.es_rules_scope.specs.declared.field.TheConstants.{UNARY_OPERATOR}
use Rattle.es_rules_scope.specs.Globals.{is_global}
use Rattle.es_rules_scope.specs.Names.{name_at, said_of_name}

abbrev pub is_typeof : List Row → ℕ → Bool
is_typeof rows node = is_one_of (UNARY_EXPRESSION ∷ []) rows node && is_text (words_of rows node UNARY_OPERATOR) (codes "typeof")

-- the node's parent is a `typeof`
abbrev pub is_operand_of_typeof : List Row → ℕ → Bool
is_operand_of_typeof rows node = option_map_or (is_typeof rows) (parent rows node) false

abbrev pub is_undefined : File → Reference → Bool
is_undefined file r =
    is_none r.variable
    && (not (is_operand_of_typeof (rows_in file) r.node) && not (is_global file.settings (name_at (rows_in file) r.node)))

abbrev pub said_of : File → Reference → List Finding
said_of file r = if is_undefined file r then said_of_name file r.node (codes "' is not defined.") ∷ [] else []

abbrev pub no_undef : SimpleFileMeaning
no_undef = record { id = codes "no-undef"; finds = λ file. flat_map (said_of file) file.scopes.references }
