-- semi: what the grammar ends with `;` (ECMA-262, 12.10) and whose last token isn't one: a variable declaration outside
-- of the head of a loop, an expression statement, a do-while, `continue`, `break`, `return`, `throw` and `debugger`, an
-- import, an export that declares nothing, and a field of a class. The fix inserts a `;` at its end, which is the span.
-- The option "always" is the same as none.
use Rattle.std.specs.Prelude.{ℕ, Bool, not, ◌&&◌, ◌||◌, List, [], ◌∷◌, Some, codes, if◌then◌else◌, map}
use Rattle.es_text.specs.declared.finding.Fix.{Fix}
use Rattle.es_text.specs.declared.span.Span.{Span}
use Rattle.es_tree.specs.declared.kind.TheConstants.{BREAK_STATEMENT, CLASS_DECLARATION, CONTINUE_STATEMENT, DEBUGGER_STATEMENT, DO_WHILE_STATEMENT, EXPORT_ALL_DECLARATION, EXPORT_DEFAULT_DECLARATION, EXPORT_NAMED_DECLARATION, EXPRESSION_STATEMENT, FOR_IN_STATEMENT, FOR_OF_STATEMENT, FOR_STATEMENT, FUNCTION_DECLARATION, IMPORT_DECLARATION, PROPERTY_DEFINITION, RETURN_STATEMENT, THROW_STATEMENT, VARIABLE_DECLARATION}
use Rattle.es_tree.specs.Around.{child, is_one_of, is_some_of, stands_as}
use Rattle.es_tree.specs.Rows.{Row}
use Rattle.es_settings.specs.declared.verdict.Verdict.{Verdict}
use Rattle.es_settings.specs.declared.verdict.Verdict.TheVariants.{BadOption, Fine}
use Rattle.es_settings.specs.Settings.{Options}
use Rattle.es_host.specs.Files.{File, rows_in}
use Rattle.es_host.specs.Nodes.{NodeMeaning, found, of_kind, span_at}
use Rattle.es_host.specs.TokensAround.{is_some_token, token_before}
use Rattle.es_rules_plain.specs.Eqeqeq.{is_option}
use Rattle.es_rules_plain.specs.declared.semi.TheConstants.{DECLARATION, HEAD}

unfoldable pub missing : List ℕ
missing = codes "Missing semicolon."

abbrev pub takes_always : Options → Verdict
takes_always [] = Fine
takes_always (option ∷ []) = if is_option (codes "always") option then Fine else BadOption
takes_always (option ∷ other ∷ options) = BadOption

abbrev pub kinds : List ℕ
kinds =
    VARIABLE_DECLARATION ∷ EXPRESSION_STATEMENT ∷ DO_WHILE_STATEMENT ∷ CONTINUE_STATEMENT ∷ BREAK_STATEMENT
    ∷ RETURN_STATEMENT ∷ THROW_STATEMENT ∷ DEBUGGER_STATEMENT ∷ IMPORT_DECLARATION ∷ EXPORT_NAMED_DECLARATION
    ∷ EXPORT_DEFAULT_DECLARATION ∷ EXPORT_ALL_DECLARATION ∷ PROPERTY_DEFINITION ∷ []

-- an export of a declaration, which has its own end
abbrev pub declares : List Row → ℕ → Bool
declares rows node =
    is_one_of (EXPORT_NAMED_DECLARATION ∷ EXPORT_DEFAULT_DECLARATION ∷ []) rows node
    && is_some_of (VARIABLE_DECLARATION ∷ FUNCTION_DECLARATION ∷ CLASS_DECLARATION ∷ []) rows (child rows node DECLARATION)

-- a node of these kinds is ended by `;`, but in the head of a loop and for an export of a declaration
abbrev pub reads_semi : List Row → ℕ → Bool
reads_semi rows node = not (stands_as (FOR_STATEMENT ∷ FOR_IN_STATEMENT ∷ FOR_OF_STATEMENT ∷ []) HEAD rows node) && not (declares rows node)

-- the last token of what ends at this offset is `;`
abbrev pub ends_in_semicolon : File → ℕ → Bool
ends_in_semicolon file end = is_some_token file (codes ";") (token_before file end)

abbrev pub end_of : Span → Span
end_of span = record { start = span.end; end = span.end }

abbrev pub ended : Span → Fix
ended span = record { span = span; text = codes ";" }

abbrev pub semi : NodeMeaning
semi = record {
  id = codes "semi";
  verdict = takes_always;
  interest = λ options. map of_kind kinds;
  finds = λ file options node which.
      if not (reads_semi (rows_in file) node) || ends_in_semicolon file (span_at (rows_in file) node).end then []
      else found (end_of (span_at (rows_in file) node)) missing (Some (ended (end_of (span_at (rows_in file) node)))) ∷ [];
}
