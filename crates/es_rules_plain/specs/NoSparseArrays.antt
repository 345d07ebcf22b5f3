-- no-sparse-arrays: an ArrayExpression with a hole. ECMA-262, 13.2.4, Elision.
use Rattle.std.specs.Prelude.{ℕ, Bool, is_none, List, [], ◌∷◌, None, codes, if◌then◌else◌}
use Rattle.std.specs.List.{list_any, range_with_len}
use Rattle.es_tree.specs.declared.kind.TheConstants.{ARRAY_EXPRESSION}
use Rattle.es_tree.specs.Rows.{Row, field_child_of}
use Rattle.es_tree.specs.Around.{joined}
use Rattle.es_host.specs.Files.{rows_in}
use Rattle.es_host.specs.Nodes.{SimpleNodeMeaning, count_places, found, span_at}
use Rattle.es_rules_plain.specs.declared.no_sparse_arrays.TheConstants.{ELEMENTS}

-- a hole stands at one of the places
abbrev pub has_hole : List Row → ℕ → Bool
has_hole rows node = list_any (λ index. is_none (joined (field_child_of rows node ELEMENTS index))) (range_with_len 0 (count_places rows node ELEMENTS))

abbrev pub no_sparse_arrays : SimpleNodeMeaning
no_sparse_arrays = record {
  id = codes "no-sparse-arrays";
  kinds = ARRAY_EXPRESSION ∷ [];
  finds = λ file node.
      if has_hole (rows_in file) node
      then found (span_at (rows_in file) node) (codes "Unexpected comma in middle of array.") None ∷ []
      else [];
}
