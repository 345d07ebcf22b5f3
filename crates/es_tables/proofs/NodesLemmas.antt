-- The fields of the kinds, as the code keeps them and as the table of nodes has them.
use Rattle.std.proofs.Common.{◌≡◌, ◌∙◌, ℕ, zero, suc, ◌+◌, ◌<◌, ◌≤◌, Bool, true, false, cond, not, List, [], ◌∷◌, ◌++◌, length, map, refl, sym, ap, subst, arith, Option, Some, None, slice_get, get_or}
use Rattle.std.specs.Prelude.{position, count_by, is_some, option_and_then, option_map, unwrap_or, nat_le}
use Rattle.std.specs.List.{position_or_len}
use Rattle.std.specs.Str.{bytes_eq}
use Rattle.std.proofs.lemmas.Bool.Decides.{nat_tests}
use Rattle.std.proofs.lemmas.List.{length-map}
use Rattle.std.proofs.lemmas.List.Quantifiers.{position-Some}
use Rattle.std.proofs.lemmas.List.Sums.{AllPass-from_list_all, sum_by-cons}
use Rattle.std.proofs.lemmas.Option.{slice_get-map, slice_get_within, get_or_from_slice_get}
use Rattle.es_tables.specs.declared.fields.Holds.{Holds}
use Rattle.es_tables.specs.Nodes.{Child, NodeRow, names_of, node_rows, field_index, fields_of, kind_fields, holds_of, child_fields, held_by}

abbrev Named : Type 0
Named = List ℕ × Option Holds

-- ---- the fields that are kept for a kind

module _ {X : Type 0} (seen : X → List Named) (lists : List X) (same : map seen lists ≡ map fields_of node_rows) (kind : ℕ) where
  kept : option_map seen (slice_get lists kind) ≡ option_map fields_of (slice_get node_rows kind)
  kept = sym (slice_get-map seen lists kind) ∙ (ap (λ all. slice_get all kind) same ∙ slice_get-map fields_of node_rows kind)

  pub kept_fields : (fields : X) → slice_get lists kind ≡ Some fields → seen fields ≡ kind_fields kind
  unfolding kind_fields
  kept_fields fields is = ap (λ o. unwrap_or (option_map seen o) []) (sym is) ∙ ap (λ o. unwrap_or o []) kept

  pub no_fields : slice_get lists kind ≡ None → [] ≡ kind_fields kind
  unfolding kind_fields
  no_fields is = ap (λ o. unwrap_or (option_map seen o) []) (sym is) ∙ ap (λ o. unwrap_or o []) kept

-- ---- the index of a name

module _ {X Y : Type 0} (f : X → Y) (test : Y → Bool) where
  first-map : (xs : List X) → position_or_len test (map f xs) ≡ position_or_len (λ x. test (f x)) xs
  first-map [] = refl
  first-map (x ∷ xs) = ap (λ n. cond (not (test (f x))) (1 + n) 0) (first-map xs)

  position-map : (xs : List X) → position test (map f xs) ≡ position (λ x. test (f x)) xs
  position-map xs = rw (first-map xs, length-map xs f)

  count_by-map : (xs : List X) → count_by test (map f xs) ≡ count_by (λ x. test (f x)) xs
  count_by-map [] = refl
  count_by-map (x ∷ xs) =
      sum_by-cons (λ y. cond (test y) 1 0) (f x) (map f xs) ∙ (ap (λ n. cond (test (f x)) 1 0 + n) (count_by-map xs) ∙ sym (sum_by-cons (λ y. cond (test (f y)) 1 0) x xs))

names_of_attributes : (attributes : List (List ℕ)) → map (λ (field : Named). field.0) (map (λ name. (name, None)) attributes) ≡ attributes
names_of_attributes [] = refl
names_of_attributes (name ∷ rest) = ap (λ names. name ∷ names) (names_of_attributes rest)

names_of_fields : (children : List Child) (attributes : List (List ℕ)) →
    map (λ (field : Named). field.0) (map (λ child. (child.name, Some child.holds)) children ++ map (λ name. (name, None)) attributes)
    ≡ map (λ child. child.name) children ++ attributes
names_of_fields [] attributes = names_of_attributes attributes
names_of_fields (child ∷ rest) attributes = ap (λ names. child.name ∷ names) (names_of_fields rest attributes)

index_in_row : (name : List ℕ) (row : Option NodeRow) →
    position (λ (field : Named). bytes_eq name field.0) (unwrap_or (option_map fields_of row) [])
    ≡ option_and_then (λ row. position (bytes_eq name) (names_of row)) row
index_in_row name None = refl
index_in_row name (Some row) =
    sym (position-map (λ (field : Named). field.0) (bytes_eq name) (fields_of row)) ∙ ap (position (bytes_eq name)) (names_of_fields row.children row.attributes)

-- the index among the fields that are kept is the one by the table
pub kept_index : {X : Type 0} (seen : X → Named) (fields : List X) (kind : ℕ) (name : List ℕ) → map seen fields ≡ kind_fields kind →
    position (λ field. bytes_eq name (seen field).0) fields ≡ field_index kind name
unfolding kind_fields
kept_index seen fields kind name same =
    sym (position-map seen (λ (field : Named). bytes_eq name field.0) fields)
    ∙ (ap (position (λ (field : Named). bytes_eq name field.0)) same ∙ index_in_row name (slice_get node_rows kind))

-- ---- what a child field holds

no_attribute_holds : (attributes : List (List ℕ)) (field : ℕ) → option_and_then (λ (f : Named). f.1) (slice_get (map (λ name. (name, None)) attributes) field) ≡ None
no_attribute_holds [] field = refl
no_attribute_holds (name ∷ rest) zero = refl
no_attribute_holds (name ∷ rest) (suc field) = no_attribute_holds rest field

child_holds : (children : List Child) (attributes : List (List ℕ)) (field : ℕ) →
    option_and_then (λ (f : Named). f.1) (slice_get (map (λ child. (child.name, Some child.holds)) children ++ map (λ name. (name, None)) attributes) field)
    ≡ slice_get (map (λ child. child.holds) children) field
child_holds [] attributes field = no_attribute_holds attributes field
child_holds (child ∷ rest) attributes zero = refl
child_holds (child ∷ rest) attributes (suc field) = child_holds rest attributes field

row_holds : (row : Option NodeRow) (field : ℕ) →
    option_and_then (λ (f : Named). f.1) (slice_get (unwrap_or (option_map fields_of row) []) field)
    ≡ slice_get (unwrap_or (option_map (λ row. map (λ child. child.holds) row.children) row) []) field
row_holds None field = refl
row_holds (Some row) field = child_holds row.children row.attributes field

pub kept_holds : {X : Type 0} (seen : X → Named) (fields : List X) (kind field : ℕ) → map seen fields ≡ kind_fields kind →
    option_and_then (λ f. (seen f).1) (slice_get fields field) ≡ held_by kind field
unfolding kind_fields holds_of
kept_holds seen fields kind field same =
    one seen (slice_get fields field) ∙ (ap (option_and_then (λ (f : Named). f.1)) (sym (slice_get-map seen fields field) ∙ ap (λ all. slice_get all field) same)
    ∙ row_holds (slice_get node_rows kind) field)
  where
    one : {X : Type 0} (seen : X → Named) (f : Option X) → option_and_then (λ f. (seen f).1) f ≡ option_and_then (λ (f : Named). f.1) (option_map seen f)
    one seen None = refl
    one seen (Some f) = refl

-- ---- how many child fields there are

no_attribute_counts : (attributes : List (List ℕ)) → count_by (λ (f : Named). is_some f.1) (map (λ name. (name, None)) attributes) ≡ 0
no_attribute_counts [] = refl
no_attribute_counts (name ∷ rest) =
    sum_by-cons (λ (f : Named). cond (is_some f.1) 1 0) (name, None) (map (λ name. (name, None)) rest) ∙ omega (arith, no_attribute_counts rest)

child_counts : (children : List Child) (attributes : List (List ℕ)) →
    count_by (λ (f : Named). is_some f.1) (map (λ child. (child.name, Some child.holds)) children ++ map (λ name. (name, None)) attributes)
    ≡ length (map (λ child. child.holds) children)
child_counts [] attributes = no_attribute_counts attributes
child_counts (child ∷ rest) attributes =
    sum_by-cons (λ (f : Named). cond (is_some f.1) 1 0) (child.name, Some child.holds) (map (λ child. (child.name, Some child.holds)) rest ++ map (λ name. (name, None)) attributes)
    ∙ omega (arith, child_counts rest attributes)

row_counts : (row : Option NodeRow) → count_by (λ (f : Named). is_some f.1) (unwrap_or (option_map fields_of row) [])
    ≡ length (unwrap_or (option_map (λ row. map (λ child. child.holds) row.children) row) [])
row_counts None = refl
row_counts (Some row) = child_counts row.children row.attributes

pub kept_count : {X : Type 0} (seen : X → Named) (fields : List X) (kind : ℕ) → map seen fields ≡ kind_fields kind →
    count_by (λ f. is_some (seen f).1) fields ≡ length (child_fields kind)
unfolding kind_fields holds_of
kept_count seen fields kind same =
    sym (count_by-map seen (λ (f : Named). is_some f.1) fields) ∙ (ap (count_by (λ (f : Named). is_some f.1)) same ∙ row_counts (slice_get node_rows kind))

-- ---- the size of a code

abbrev is_short : NodeRow → Bool
is_short row = nat_le (length (names_of row)) 8

-- no kind has many names
few_names : (kind : ℕ) (row : NodeRow) → slice_get node_rows kind ≡ Some row → length (names_of row) ≤ 8
few_names kind row is =
    let short = AllPass-from_list_all is_short node_rows refl kind row (slice_get_within node_rows kind row is) in
    let passes : is_short row ≡ true = subst (λ r. is_short r ≡ true) (get_or_from_slice_get node_rows kind row row is) short in
    grind (arith, nat_tests)

low_index : (row : Option NodeRow) → ((r : NodeRow) → row ≡ Some r → length (names_of r) ≤ 8) → (name : List ℕ) (index : ℕ)
    → option_and_then (λ r. position (bytes_eq name) (names_of r)) row ≡ Some index → index < 8
low_index None few name index is = cc
low_index (Some row) few name index is = omega (arith, (position-Some (bytes_eq name) (names_of row) index [] is).0, few row refl)

pub index_is_low : (kind : ℕ) (name : List ℕ) (index : ℕ) → field_index kind name ≡ Some index → index < 8
index_is_low kind name index = low_index (slice_get node_rows kind) (few_names kind) name index
