-- default-case-last: a `default` that isn't the last clause of its switch.
use Rattle.std.specs.Prelude.{ℕ, ◌-◌, ◌&&◌, Bool, true, not, is_none, nat_eq, List, [], ◌∷◌, None, Option, Some, codes, if◌then◌else◌}
use Rattle.std.specs.Option.{option_eq, option_map_or}
use Rattle.es_tree.specs.declared.kind.TheConstants.{SWITCH_CASE}
use Rattle.es_tree.specs.Rows.{Row, field_child_of}
use Rattle.es_tree.specs.Around.{child, joined, parent}
use Rattle.es_host.specs.Files.{rows_in}
use Rattle.es_host.specs.Nodes.{SimpleNodeMeaning, count_places, found, span_at}
use Rattle.es_rules_plain.specs.declared.default_case_last.TheConstants.{CASES, TEST}

unfoldable pub should_be_last : List ℕ
should_be_last = codes "Default clause should be the last clause."

-- the last clause of a switch
abbrev pub last_clause : List Row → ℕ → Option ℕ
last_clause rows switch = joined (field_child_of rows switch CASES (count_places rows switch CASES - 1))

abbrev pub is_last : List Row → ℕ → Bool
is_last rows node = option_map_or (λ switch. option_eq nat_eq (last_clause rows switch) (Some node)) (parent rows node) true

abbrev pub default_case_last : SimpleNodeMeaning
default_case_last = record {
  id = codes "default-case-last";
  kinds = SWITCH_CASE ∷ [];
  finds = λ file node.
      if is_none (child (rows_in file) node TEST) && not (is_last (rows_in file) node)
      then found (span_at (rows_in file) node) should_be_last None ∷ []
      else [];
}
