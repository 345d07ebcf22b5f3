-- no-cond-assign: an assignment as a test. Two pairs of parentheses directly around it excuse it, of which one may
-- be that of `if`, `while` or do-while; in a `for` one pair does.
use Rattle.std.specs.Prelude.{ℕ, Bool, not, ◌&&◌, ◌||◌, List, [], ◌∷◌, None, codes, if◌then◌else◌}
use Rattle.es_tree.specs.declared.kind.TheConstants.{ASSIGNMENT_EXPRESSION, CONDITIONAL_EXPRESSION, DO_WHILE_STATEMENT, FOR_STATEMENT, IF_STATEMENT, WHILE_STATEMENT}
use Rattle.es_tree.specs.Around.{stands_as}
use Rattle.es_tree.specs.Rows.{Row}
use Rattle.es_host.specs.Files.{File, rows_in}
use Rattle.es_host.specs.Nodes.{SimpleNodeMeaning, found, span_at}
use Rattle.es_host.specs.TokensAround.{is_in_pair}
use Rattle.es_rules_plain.specs.declared.no_cond_assign.TheConstants.{FIRST_TEST, SECOND_TEST}

-- the test of `if`, `while`, do-while or `?:`
abbrev pub is_test : List Row → ℕ → Bool
is_test rows node =
    stands_as (IF_STATEMENT ∷ WHILE_STATEMENT ∷ CONDITIONAL_EXPRESSION ∷ []) FIRST_TEST rows node
    || stands_as (DO_WHILE_STATEMENT ∷ []) SECOND_TEST rows node

-- the test of a `for`
abbrev pub is_for_test : List Row → ℕ → Bool
is_for_test rows node = stands_as (FOR_STATEMENT ∷ []) SECOND_TEST rows node

abbrev pub is_excused : File → ℕ → Bool
is_excused file node =
    is_in_pair file (span_at (rows_in file) node) 0
    && (is_for_test (rows_in file) node || is_in_pair file (span_at (rows_in file) node) 1)

abbrev pub no_cond_assign : SimpleNodeMeaning
no_cond_assign = record {
  id = codes "no-cond-assign";
  kinds = ASSIGNMENT_EXPRESSION ∷ [];
  finds = λ file node.
      if (is_test (rows_in file) node || is_for_test (rows_in file) node) && not (is_excused file node)
      then found (span_at (rows_in file) node) (codes "Expected a conditional expression and instead saw an assignment.") None ∷ []
      else [];
}
