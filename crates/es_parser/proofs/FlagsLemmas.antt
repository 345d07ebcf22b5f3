-- The flags of a kind, from the table of all kinds.
use Rattle.std.proofs.Common.{◌≡◌, ◌∙◌, ℕ, false, List, [], ◌∷◌, map, Option, Some, None, ap, sym, refl}
use Rattle.std.specs.Prelude.{filter, option_and_then, option_map, position, slice_get}
use Rattle.std.specs.List.{list_any}
use Rattle.std.specs.Option.{unwrap_or}
use Rattle.std.specs.Str.{bytes_eq}
use Rattle.std.proofs.lemmas.Option.{slice_get-map}
use Rattle.es_tables.specs.Nodes.{NodeRow, field_index, names_of, node_rows}
use Rattle.es_tree.specs.declared.shape.AttributeValue.TheVariants as value
use Rattle.es_tree.specs.declared.shape.Shape.{Shape}
use Rattle.es_tree.specs.Shapes.{with_attribute}
use Rattle.es_grammar.specs.Drafts.{flag_words, flags_of, with_flags}
use Rattle.es_parser.specs.Flags.{flags_in}

positions_in : ℕ → Option NodeRow → List ℕ
positions_in kind found =
    map (λ name. unwrap_or (option_and_then (λ row. position (bytes_eq name) (names_of row)) found) 0)
    (filter (λ name. list_any (bytes_eq name) flag_words) (unwrap_or (option_map (λ row. row.attributes) found) []))

-- what stands at the kind's place in a list that keeps the flags of all kinds
unwrapped : (found : Option NodeRow) (flags : List ℕ) (kind : ℕ) → option_map flags_in found ≡ Some flags → positions_in kind found ≡ flags
unfolding positions_in
unwrapped None flags kind e = cc
unwrapped (Some row) flags kind e = cc

nothing_there : (found : Option NodeRow) (kind : ℕ) → option_map flags_in found ≡ None → positions_in kind found ≡ []
unfolding positions_in
nothing_there None kind e = refl
nothing_there (Some row) kind e = cc

pub kept_flags : {A : Type 0} (view : A → List ℕ) (kept : List A) → map view kept ≡ map flags_in node_rows → (kind : ℕ) (x : A) →
    slice_get kept kind ≡ Some x → view x ≡ map (λ name. unwrap_or (field_index kind name) 0) (flags_of kind)
unfolding positions_in
kept_flags view kept all kind x at =
    sym (unwrapped (slice_get node_rows kind) (view x) kind
    (sym (slice_get-map flags_in node_rows kind) ∙ ap (λ rows. slice_get rows kind) (sym all) ∙ slice_get-map view kept kind ∙ ap (option_map view) at))

pub no_flags : {A : Type 0} (view : A → List ℕ) (kept : List A) → map view kept ≡ map flags_in node_rows → (kind : ℕ) →
    slice_get kept kind ≡ None → [] ≡ map (λ name. unwrap_or (field_index kind name) 0) (flags_of kind)
unfolding positions_in
no_flags view kept all kind at =
    sym (nothing_there (slice_get node_rows kind) kind
    (sym (slice_get-map flags_in node_rows kind) ∙ ap (λ rows. slice_get rows kind) (sym all) ∙ slice_get-map view kept kind ∙ ap (option_map view) at))

-- the node with these flags, which are false
abbrev pub given : List ℕ → Shape → Shape
given [] shape = shape
given (field ∷ fields) shape = given fields (with_attribute shape field (value.Flag false))

pub all_given : (kind : ℕ) (names : List (List ℕ)) (shape : Shape) →
    given (map (λ name. unwrap_or (field_index kind name) 0) names) shape ≡ with_flags kind names shape
all_given kind [] shape = refl
all_given kind (name ∷ names) shape = all_given kind names (with_attribute shape (unwrap_or (field_index kind name) 0) (value.Flag false))
