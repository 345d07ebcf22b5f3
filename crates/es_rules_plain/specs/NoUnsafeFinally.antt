-- no-unsafe-finally: a `return`, a `throw`, a `break` or a `continue` that leaves a finalizer (ECMA-262, 14.15), so
-- that what the `try` completed with is lost. A jump leaves what stands around it, out to the statement that it aims
-- at or to the function or class around it.
use Rattle.std.specs.Prelude.{ℕ, Bool, ◌&&◌, ◌||◌, ◌==◌, List, [], ◌∷◌, Option, None, Some, codes, if◌then◌else◌, unwrap_or}
use Rattle.std.specs.List.{list_any}
use Rattle.es_tree.specs.declared.field.TheConstants.{LABEL}
use Rattle.es_tree.specs.declared.kind.TheConstants.{ARROW_FUNCTION_EXPRESSION, BREAK_STATEMENT, CLASS_DECLARATION, CLASS_EXPRESSION, CONTINUE_STATEMENT, FUNCTION_DECLARATION, FUNCTION_EXPRESSION, RETURN_STATEMENT, THROW_STATEMENT, TRY_STATEMENT}
use Rattle.es_tree.specs.Around.{ancestors, before, child, is_one_of, stands_as}
use Rattle.es_tree.specs.Kinds.{loops, loops_and_switches}
use Rattle.es_tree.specs.Rows.{Row, kind_of}
use Rattle.es_early.specs.Labels.{is_labelled}
use Rattle.es_host.specs.Files.{rows_in}
use Rattle.es_host.specs.Nodes.{SimpleNodeMeaning, found, span_at}
use Rattle.es_rules_plain.specs.declared.no_unsafe_finally.TheConstants.{FINALIZER}

unfoldable pub unsafe_usage : ℕ → List ℕ
unsafe_usage kind =
    if kind == RETURN_STATEMENT then codes "Unsafe usage of ReturnStatement."
    else if kind == THROW_STATEMENT then codes "Unsafe usage of ThrowStatement."
    else if kind == BREAK_STATEMENT then codes "Unsafe usage of BreakStatement."
    else codes "Unsafe usage of ContinueStatement."

abbrev pub functions_and_classes : List ℕ
functions_and_classes =
    FUNCTION_DECLARATION ∷ FUNCTION_EXPRESSION ∷ ARROW_FUNCTION_EXPRESSION ∷ CLASS_DECLARATION ∷ CLASS_EXPRESSION ∷ []

-- A `break` or `continue` of this label aims at the statement of that label around it: the loop that a `continue`
-- goes on with stands directly in that, and so on the same side of each finalizer. Without a label a `continue`
-- aims at a loop, and a `break` at a loop or a switch
abbrev pub aims_with : List Row → ℕ → Option ℕ → ℕ → Bool
aims_with rows jump (Some label) statement =
    is_one_of (BREAK_STATEMENT ∷ CONTINUE_STATEMENT ∷ []) rows jump && is_labelled rows label statement
aims_with rows jump None statement =
    (is_one_of (BREAK_STATEMENT ∷ []) rows jump && is_one_of loops_and_switches rows statement)
    || (is_one_of (CONTINUE_STATEMENT ∷ []) rows jump && is_one_of loops rows statement)

abbrev pub aims_at : List Row → ℕ → ℕ → Bool
aims_at rows jump statement = aims_with rows jump (child rows jump LABEL) statement

-- the jump doesn't go on out of this
abbrev pub stops : List Row → ℕ → ℕ → Bool
stops rows jump around = is_one_of functions_and_classes rows around || aims_at rows jump around

-- what the jump leaves
abbrev pub left_by : List Row → ℕ → List ℕ
left_by rows jump = before (stops rows jump) (ancestors rows jump)

abbrev pub is_finalizer : List Row → ℕ → Bool
is_finalizer rows node = stands_as (TRY_STATEMENT ∷ []) FINALIZER rows node

abbrev pub leaves_finalizer : List Row → ℕ → Bool
leaves_finalizer rows jump = list_any (is_finalizer rows) (left_by rows jump)

abbrev pub no_unsafe_finally : SimpleNodeMeaning
no_unsafe_finally = record {
  id = codes "no-unsafe-finally";
  kinds = RETURN_STATEMENT ∷ THROW_STATEMENT ∷ BREAK_STATEMENT ∷ CONTINUE_STATEMENT ∷ [];
  finds = λ file node.
      if leaves_finalizer (rows_in file) node
      then found (span_at (rows_in file) node) (unsafe_usage (unwrap_or (kind_of (rows_in file) node) 0)) None ∷ []
      else [];
}
