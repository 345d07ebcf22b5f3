-- Operators of expressions.
use Rattle.std.specs.Prelude.{ℕ, Bool, false, ◌&&◌, ◌||◌, List, [], ◌∷◌, Option, codes}
use Rattle.std.specs.Option.{option_map_or}
use Rattle.es_tree.specs.declared.kind.TheConstants.{BINARY_EXPRESSION, UNARY_EXPRESSION}
use Rattle.es_tree.specs.Around.{is_one_of, is_text, words_of}
use Rattle.es_tree.specs.Rows.{Row}
use Rattle.es_rules_plain.specs.declared.operators.TheConstants.{BINARY_OPERATOR, UNARY_OPERATOR}

-- the node is an expression with two sides and this operator
abbrev pub is_binary : List ℕ → List Row → ℕ → Bool
is_binary operator rows node = is_one_of (BINARY_EXPRESSION ∷ []) rows node && is_text (words_of rows node BINARY_OPERATOR) operator

-- EqualityExpression (13.11)
abbrev pub is_equality : List Row → ℕ → Bool
is_equality rows node =
    is_binary (codes "==") rows node || is_binary (codes "!=") rows node
    || is_binary (codes "===") rows node || is_binary (codes "!==") rows node

-- the node is an expression with one side and this operator
abbrev pub is_unary : List ℕ → List Row → ℕ → Bool
is_unary operator rows node = is_one_of (UNARY_EXPRESSION ∷ []) rows node && is_text (words_of rows node UNARY_OPERATOR) operator

-- there is a node, and it is a `typeof`
abbrev pub is_some_typeof : List Row → Option ℕ → Bool
is_some_typeof rows node = option_map_or (is_unary (codes "typeof") rows) node false
