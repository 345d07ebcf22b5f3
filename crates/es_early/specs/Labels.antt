-- Labels (ECMA-262, 14.13), and a label inside of a statement of the same label (8.3.1
-- ContainsDuplicateLabels).
use Rattle.std.specs.Prelude.{ℕ, Bool, false, not, ◌&&◌, List, [], ◌∷◌, Option, Some, None}
use Rattle.std.specs.List.{list_any}
use Rattle.es_tree.specs.declared.kind.TheConstants.{LABELED_STATEMENT}
use Rattle.es_tree.specs.Rows.{Row}
use Rattle.es_tree.specs.Around.{ancestors, before, child, is_one_of, parent, same_name, stands_as}
use Rattle.es_tree.specs.Kinds.{functions_and_static_blocks}
use Rattle.es_tree.specs.declared.field.TheConstants.{LABEL}

-- the nodes around a node inside of its function or static block
abbrev pub around_in_function : List Row → ℕ → List ℕ
around_in_function rows node = before (is_one_of functions_and_static_blocks rows) (ancestors rows node)

-- there is a name, and the node has the same
abbrev pub is_named : List Row → ℕ → Option ℕ → Bool
is_named rows node None = false
is_named rows node (Some named) = same_name rows named node

-- the statement is a labelled one, of the same label as this
abbrev pub is_labelled : List Row → ℕ → ℕ → Bool
is_labelled rows label statement = is_one_of (LABELED_STATEMENT ∷ []) rows statement && is_named rows label (child rows statement LABEL)

-- LabelSet (14.13.4): the labelled statements directly around a statement
abbrev pub label_set : List Row → ℕ → List ℕ
label_set rows statement = before (λ around. not (is_one_of (LABELED_STATEMENT ∷ []) rows around)) (ancestors rows statement)

-- a statement of the same label as this one's is around a labelled statement
abbrev pub is_around : List Row → ℕ → Option ℕ → Bool
is_around rows label None = false
is_around rows label (Some statement) = list_any (is_labelled rows label) (around_in_function rows statement)

-- the node is a label of a statement inside of one of the same label
abbrev pub is_doubled_label : List Row → ℕ → Bool
is_doubled_label rows node = stands_as (LABELED_STATEMENT ∷ []) LABEL rows node && is_around rows node (parent rows node)
