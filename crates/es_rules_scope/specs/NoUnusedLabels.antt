-- no-unused-labels: a label that no `break` and no `continue` names (ECMA-262, 14.13). A jump names the innermost
-- statement of its label around it; a label isn't seen in functions inside of its statement, and a jump has a label
-- of its own function.
use Rattle.std.specs.Prelude.{ℕ, Bool, false, not, ◌&&◌, List, [], ◌∷◌, length, Option, codes, find, if◌then◌else◌}
use Rattle.std.specs.List.{flat_map, range_with_len}
use Rattle.std.specs.Option.{option_map_or}
use Rattle.es_text.specs.declared.finding.Finding.{Finding}
use Rattle.es_tree.specs.declared.field.TheConstants.{LABEL}
use Rattle.es_tree.specs.declared.kind.TheConstants.{BREAK_STATEMENT, CONTINUE_STATEMENT, LABELED_STATEMENT}
use Rattle.es_tree.specs.Around.{ancestors, child, is_one_of}
use Rattle.es_tree.specs.Rows.{Row}
use Rattle.es_scopes.specs.Declarations.{some_list, with_some}
use Rattle.es_early.specs.Labels.{is_labelled}
use Rattle.es_host.specs.Files.{File, rows_in}
use Rattle.es_host.specs.Nodes.{SimpleFileMeaning}
use Rattle.es_rules_scope.specs.Marks.{has}
use Rattle.es_rules_scope.specs.Names.{said_of_name}

-- the innermost statement around a jump that has its label
abbrev pub named_from : List Row → ℕ → ℕ → Option ℕ
named_from rows jump label = find (is_labelled rows label) (ancestors rows jump)

-- the statement whose label a `break` or `continue` names, if it names one
abbrev pub named_by : List Row → ℕ → List ℕ
named_by rows jump =
    if is_one_of (BREAK_STATEMENT ∷ CONTINUE_STATEMENT ∷ []) rows jump
    then some_list (with_some (child rows jump LABEL) (named_from rows jump))
    else []

-- the statements whose labels are named
abbrev pub named : List Row → List ℕ
named rows = flat_map (named_by rows) (range_with_len 0 (length rows))

abbrev pub has_unused_label : List Row → ℕ → Bool
has_unused_label rows node = is_one_of (LABELED_STATEMENT ∷ []) rows node && not (has (named rows) node)

abbrev pub said_of : File → ℕ → List Finding
said_of file label = said_of_name file label (codes ":' is defined but never used.") ∷ []

-- what is said of the label of a node
abbrev pub said_at : File → ℕ → List Finding
said_at file node =
    if has_unused_label (rows_in file) node then option_map_or (said_of file) (child (rows_in file) node LABEL) [] else []

abbrev pub no_unused_labels : SimpleFileMeaning
no_unused_labels = record {
  id = codes "no-unused-labels";
  finds = λ file. flat_map (said_at file) (range_with_len 0 (length (rows_in file)));
}
