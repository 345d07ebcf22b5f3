-- A `break` or a `continue` without its target (ECMA-262, 14.9.1 and 14.8.1), by 8.3.2
-- ContainsUndefinedBreakTarget and 8.3.3 ContainsUndefinedContinueTarget. A jump doesn't leave its
-- function, nor its static block.
use Rattle.std.specs.Prelude.{ℕ, Bool, not, ◌&&◌, List, [], ◌∷◌, Option, Some, None}
use Rattle.std.specs.List.{list_any}
use Rattle.es_tree.specs.declared.kind.TheConstants.{BREAK_STATEMENT, CONTINUE_STATEMENT}
use Rattle.es_tree.specs.Rows.{Row}
use Rattle.es_tree.specs.Around.{child, is_one_of}
use Rattle.es_tree.specs.Kinds.{loops, loops_and_switches}
use Rattle.es_early.specs.Labels.{around_in_function, is_labelled, label_set}
use Rattle.es_tree.specs.declared.field.TheConstants.{LABEL}

-- a `break` with this label, or without one, aims at the statement around it
abbrev pub ends_break : List Row → Option ℕ → ℕ → Bool
ends_break rows None statement = is_one_of loops_and_switches rows statement
ends_break rows (Some label) statement = is_labelled rows label statement

abbrev pub is_stray_break : List Row → ℕ → Bool
is_stray_break rows node =
    is_one_of (BREAK_STATEMENT ∷ []) rows node
    && not (list_any (ends_break rows (child rows node LABEL)) (around_in_function rows node))

-- the label set of the loop has the label, if there is one
abbrev pub continues_at : List Row → Option ℕ → ℕ → Bool
continues_at rows None loop = is_one_of loops rows loop
continues_at rows (Some label) loop = is_one_of loops rows loop && list_any (is_labelled rows label) (label_set rows loop)

abbrev pub is_stray_continue : List Row → ℕ → Bool
is_stray_continue rows node =
    is_one_of (CONTINUE_STATEMENT ∷ []) rows node
    && not (list_any (continues_at rows (child rows node LABEL)) (around_in_function rows node))
