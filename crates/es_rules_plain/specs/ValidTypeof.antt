-- valid-typeof: a Text that a `typeof` is compared with, and that no `typeof` gives. ECMA-262, 13.5.3, table 41.
use Rattle.std.specs.Prelude.{ℕ, Bool, false, not, is_some, ◌&&◌, ◌||◌, List, [], ◌∷◌, Option, None, codes, if◌then◌else◌}
use Rattle.std.specs.Option.{option_map_or}
use Rattle.es_tree.specs.declared.field.TheConstants.{LEFT}
use Rattle.es_tree.specs.declared.kind.TheConstants.{LITERAL}
use Rattle.es_tree.specs.Around.{child, is_text, parent, words_of}
use Rattle.es_tree.specs.Rows.{Row}
use Rattle.es_host.specs.Files.{rows_in}
use Rattle.es_host.specs.Nodes.{SimpleNodeMeaning, found, span_at}
use Rattle.es_rules_plain.specs.declared.literals.TheConstants.{VALUE}
use Rattle.es_rules_plain.specs.declared.operators.TheConstants.{RIGHT}
use Rattle.es_rules_plain.specs.Literals.{is_text_literal}
use Rattle.es_rules_plain.specs.Operators.{is_equality, is_some_typeof}

-- an operand of `==`, `!=`, `===` or `!==`, the other one of which is a `typeof`
abbrev pub compares_typeof : List Row → ℕ → Bool
compares_typeof rows node =
    is_equality rows node && (is_some_typeof rows (child rows node LEFT) || is_some_typeof rows (child rows node RIGHT))

-- what a `typeof` gives
abbrev pub is_type : Option (List ℕ) → Bool
is_type value =
    is_text value (codes "undefined") || is_text value (codes "object") || is_text value (codes "boolean")
    || is_text value (codes "number") || is_text value (codes "string") || is_text value (codes "function")
    || is_text value (codes "symbol") || is_text value (codes "bigint")

-- a Text with a backslash has no value
abbrev pub is_no_type : List Row → ℕ → Bool
is_no_type rows node = is_text_literal rows node && (is_some (words_of rows node VALUE) && not (is_type (words_of rows node VALUE)))

abbrev pub valid_typeof : SimpleNodeMeaning
valid_typeof = record {
  id = codes "valid-typeof";
  kinds = LITERAL ∷ [];
  finds = λ file node.
      if is_no_type (rows_in file) node && option_map_or (compares_typeof (rows_in file)) (parent (rows_in file) node) false
      then found (span_at (rows_in file) node) (codes "Invalid typeof comparison value.") None ∷ []
      else [];
}
