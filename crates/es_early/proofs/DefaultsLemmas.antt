-- A second `default` by the first one of its switch.
use Rattle.std.proofs.Common.{◌≡◌, ◌∙◌, ℕ, ◌<◌, true, List, length, Some, ap, sym, [], ◌∷◌}
use Rattle.std.specs.Prelude.{nat_eq, is_none}
use Rattle.std.specs.HashMap.{HashMap, get}
use Rattle.std.proofs.lemmas.Bool.{and_from, and_parts}
use Rattle.es_tree.specs.Rows.{Row}
use Rattle.es_tree.specs.declared.kind.TheConstants.{SWITCH_CASE}
use Rattle.es_early.specs.Lookups.{HasDefaults, is_default_of}
use Rattle.es_tree.specs.Around.{child, is_one_of, is_some, parent}
use Rattle.es_early.specs.Defaults.{IsSecondDefault, is_default}
use Rattle.es_early.specs.Notes.{is_noted_before}
use Rattle.es_tree.specs.declared.field.TheConstants.{TEST}
use Rattle.es_early.proofs.KindsLemmas.{one_of-within, is_some-gives, is_some-holds}
use Rattle.es_early.proofs.NotesLemmas.{noted_before-gives, noted_before-holds}

default-within : (rows : List Row) (node : ℕ) → is_default rows node ≡ true → node < length rows
default-within rows node is =
    one_of-within (SWITCH_CASE ∷ []) rows node (and_parts (is_one_of (SWITCH_CASE ∷ []) rows node) (is_none (child rows node TEST)) is).0

pub second-default : {S : Type 0} (rows : List Row) (notes : HashMap ℕ ℕ S) (node switch : ℕ) → HasDefaults rows (length rows) notes
    → is_default rows node ≡ true → parent rows node ≡ Some switch
    → (is_noted_before (get nat_eq notes switch) node ≡ true → IsSecondDefault rows node)
    × (IsSecondDefault rows node → is_noted_before (get nat_eq notes switch) node ≡ true)
second-default rows notes node switch has this inside = (gives, holds)
  where
    gives : is_noted_before (get nat_eq notes switch) node ≡ true → IsSecondDefault rows node
    gives is =
        let first = noted_before-gives (is_default_of rows switch) (length rows) node (ap (λ f. is_noted_before f node) (sym (has switch)) ∙ is) in
        let parts = and_parts (is_default rows first.0) (is_some (parent rows first.0) switch) first.1 in
        record {
          this = this;
          switch = switch;
          inside = inside;
          other = first.0;
          before = first.2;
          first = parts.0;
          same = is_some-gives (parent rows first.0) switch parts.1;
        }

    holds : IsSecondDefault rows node → is_noted_before (get nat_eq notes switch) node ≡ true
    holds second =
        let same : parent rows second.other ≡ Some switch = second.same ∙ sym second.inside ∙ inside in
        ap (λ f. is_noted_before f node) (has switch)
        ∙ noted_before-holds (is_default_of rows switch) (length rows) second.other node
        (and_from (is_default rows second.other) (is_some (parent rows second.other) switch) second.first
        (is_some-holds (parent rows second.other) switch same))
        (default-within rows second.other second.first) second.before
