-- no-unsafe-negation: `!a` without parentheses as the left side of `in` or `instanceof`.
use Rattle.std.specs.Prelude.{ℕ, Bool, false, ◌&&◌, List, [], ◌∷◌, None, codes, if◌then◌else◌}
use Rattle.std.specs.Option.{option_map_or}
use Rattle.es_tree.specs.declared.field.TheConstants.{LEFT}
use Rattle.es_tree.specs.declared.kind.TheConstants.{BINARY_EXPRESSION, UNARY_EXPRESSION}
use Rattle.es_tree.specs.Around.{parent, stands_as}
use Rattle.es_tree.specs.Rows.{Row}
use Rattle.es_host.specs.Files.{rows_in}
use Rattle.es_host.specs.Nodes.{SimpleNodeMeaning, found, span_at}
use Rattle.es_host.specs.TokensAround.{is_in_pair}
use Rattle.es_rules_plain.specs.Operators.{is_binary, is_unary}

-- the node is `!` and the left side of an expression with this operator
abbrev pub negates_left_of : List Row → ℕ → List ℕ → Bool
negates_left_of rows node operator =
    stands_as (BINARY_EXPRESSION ∷ []) LEFT rows node
    && (is_unary (codes "!") rows node && option_map_or (is_binary operator rows) (parent rows node) false)

abbrev pub no_unsafe_negation : SimpleNodeMeaning
no_unsafe_negation = record {
  id = codes "no-unsafe-negation";
  kinds = UNARY_EXPRESSION ∷ [];
  finds = λ file node.
      if is_in_pair file (span_at (rows_in file) node) 0 then []
      else if negates_left_of (rows_in file) node (codes "in")
      then found (span_at (rows_in file) node) (codes "Unexpected negating the left operand of 'in' operator.") None ∷ []
      else if negates_left_of (rows_in file) node (codes "instanceof")
      then found (span_at (rows_in file) node) (codes "Unexpected negating the left operand of 'instanceof' operator.") None ∷ []
      else [];
}
