-- eqeqeq: `==` and `!=`, by the operator's span. With "smart" not where a side is `null` or a `typeof`, nor where
-- both are literals of one sort. The option "always" is the same as none.
use Rattle.std.specs.Prelude.{ℕ, Bool, false, ◌&&◌, ◌||◌, List, [], ◌∷◌, Option, None, Some, codes, if◌then◌else◌}
use Rattle.std.specs.Option.{option_map_or}
use Rattle.std.specs.Str.{bytes_eq}
use Rattle.serde_json.specs.Data.{Data}
use Rattle.serde_json.specs.Find.{as_str}
use Rattle.es_text.specs.declared.finding.Finding.{Finding}
use Rattle.es_text.specs.declared.span.Span.{Span}
use Rattle.es_tree.specs.declared.field.TheConstants.{LEFT}
use Rattle.es_tree.specs.declared.kind.TheConstants.{BINARY_EXPRESSION}
use Rattle.es_tree.specs.Around.{child}
use Rattle.es_tree.specs.Rows.{Row}
use Rattle.es_settings.specs.declared.verdict.Verdict.{Verdict}
use Rattle.es_settings.specs.declared.verdict.Verdict.TheVariants.{BadOption, Fine}
use Rattle.es_settings.specs.Settings.{Options}
use Rattle.es_host.specs.Files.{File, rows_in}
use Rattle.es_host.specs.Nodes.{NodeMeaning, found, of_kind, span_at}
use Rattle.es_host.specs.TokensAround.{past_parentheses}
use Rattle.es_rules_plain.specs.declared.literals.Sort.TheVariants.{Null}
use Rattle.es_rules_plain.specs.declared.operators.TheConstants.{RIGHT}
use Rattle.es_rules_plain.specs.Literals.{is_same_sort, some_sort}
use Rattle.es_rules_plain.specs.Operators.{is_binary, is_some_typeof}

-- the option is this text
abbrev pub is_option : List ℕ → Data → Bool
is_option text option = option_map_or (λ given. bytes_eq given text) (as_str option) false

-- nothing, "always" or "smart"
abbrev pub takes_style : Options → Verdict
takes_style [] = Fine
takes_style (option ∷ []) = if is_option (codes "always") option || is_option (codes "smart") option then Fine else BadOption
takes_style (option ∷ other ∷ options) = BadOption

abbrev pub is_smart : Options → Bool
is_smart [] = false
is_smart (option ∷ options) = is_option (codes "smart") option

-- there is a node, and it is `null` or a `typeof`
abbrev pub is_excuse : List Row → Option ℕ → Bool
is_excuse rows side = is_some_typeof rows side || is_same_sort (Some Null) (some_sort rows side)

-- a side is `null` or a `typeof`, or both are literals of one sort
abbrev pub is_sure : List Row → ℕ → Bool
is_sure rows node =
    is_excuse rows (child rows node LEFT) || is_excuse rows (child rows node RIGHT)
    || is_same_sort (some_sort rows (child rows node LEFT)) (some_sort rows (child rows node RIGHT))

-- what stands behind a left side and the parentheses around it
abbrev pub operator_behind : File → Span → Option ℕ → Span
operator_behind file other None = other
operator_behind file other (Some left) = option_map_or (λ token. token.span) (past_parentheses file (span_at (rows_in file) left).end) other

abbrev pub operator_at : File → ℕ → Span
operator_at file node = operator_behind file (span_at (rows_in file) node) (child (rows_in file) node LEFT)

abbrev pub said_of : File → ℕ → List Finding
said_of file node =
    if is_binary (codes "==") (rows_in file) node
    then found (operator_at file node) (codes "Expected '===' and instead saw '=='.") None ∷ []
    else if is_binary (codes "!=") (rows_in file) node
    then found (operator_at file node) (codes "Expected '!==' and instead saw '!='.") None ∷ []
    else []

abbrev pub eqeqeq : NodeMeaning
eqeqeq = record {
  id = codes "eqeqeq";
  verdict = takes_style;
  interest = λ options. of_kind BINARY_EXPRESSION ∷ [];
  finds = λ file options node which. if is_smart options && is_sure (rows_in file) node then [] else said_of file node;
}
