-- no-empty: a block that isn't a function's body, or a switch, with nothing in it and no comment.
use Rattle.std.specs.Prelude.{ℕ, Bool, not, ◌&&◌, ◌==◌, List, [], ◌∷◌, None, codes, if◌then◌else◌, length}
use Rattle.es_tree.specs.declared.kind.TheConstants.{BLOCK_STATEMENT, SWITCH_STATEMENT}
use Rattle.es_tree.specs.declared.kinds.TheConstants.{FUNCTIONS}
use Rattle.es_tree.specs.Around.{is_one_of, stands_in}
use Rattle.es_tree.specs.Rows.{Row}
use Rattle.es_host.specs.Files.{File, rows_in}
use Rattle.es_host.specs.Nodes.{SimpleNodeMeaning, count_places, found, span_at}
use Rattle.es_host.specs.TokensAround.{comments_in}
use Rattle.es_rules_plain.specs.declared.no_empty.TheConstants.{BODY, CASES}

-- a block without statements, which is no function's body
abbrev pub is_empty_block : List Row → ℕ → Bool
is_empty_block rows node = is_one_of (BLOCK_STATEMENT ∷ []) rows node && (count_places rows node BODY == 0 && not (stands_in FUNCTIONS rows node))

-- a switch without clauses
abbrev pub is_empty_switch : List Row → ℕ → Bool
is_empty_switch rows node = is_one_of (SWITCH_STATEMENT ∷ []) rows node && (count_places rows node CASES == 0)

-- a comment stands in it
abbrev pub has_comment : File → ℕ → Bool
has_comment file node = not (length (comments_in file (span_at (rows_in file) node)) == 0)

abbrev pub no_empty : SimpleNodeMeaning
no_empty = record {
  id = codes "no-empty";
  kinds = BLOCK_STATEMENT ∷ SWITCH_STATEMENT ∷ [];
  finds = λ file node.
      if is_empty_block (rows_in file) node && not (has_comment file node)
      then found (span_at (rows_in file) node) (codes "Empty block statement.") None ∷ []
      else if is_empty_switch (rows_in file) node && not (has_comment file node)
      then found (span_at (rows_in file) node) (codes "Empty switch statement.") None ∷ []
      else [];
}
