-- Places in a tree that is given as plain data: a node with the steps that lead to it from the root.
use Rattle.std.specs.Prelude.{ℕ, zero, suc, ◌+◌, ◌-◌, ◌==◌, Bool, true, false, ◌&&◌, ◌||◌, List, [], ◌∷◌, ◌++◌, length, Option, Some, None, flat_map, if◌then◌else◌, option_and_then, option_map, slice_get, unwrap_or}
use Rattle.es_tables.specs.declared.fields.Holds.{Holds}
use Rattle.es_tables.specs.declared.fields.Holds.TheVariants.{One, Optional, Many}
use Rattle.es_tables.specs.Nodes.{held_by}
use Rattle.es_tree.specs.declared.shape.Shape.{Shape, out-Shape}
use Rattle.es_tree.specs.Numbering.{numbered, numbers_of_all}
use Rattle.es_tree.specs.Rows.{child_in, no_child_field, value_among}
use Rattle.es_tree.specs.Shapes.{height}
use Rattle.es_selectors.specs.declared.selector.Spelling.{Spelling}
use Rattle.es_selectors.specs.Matches.{chains_match}
use Rattle.es_selectors.specs.Sights.{Sight}

-- from a node to a child: into the field with this code, at this index from 0, holes counted
pub record Step : Type 0 where
  pub field : ℕ
  pub index : ℕ

-- a step, and the node that it leads down from
pub record Ascent : Type 0 where
  pub parent : Shape
  pub step : Step

-- a node, and the way up to the root
pub record Place : Type 0 where
  pub node : Shape
  pub ascents : List Ascent

abbrev pub kind_of_shape : Shape → ℕ
kind_of_shape shape = (out-Shape shape).kind

abbrev pub kind_at : Place → ℕ
kind_at place = kind_of_shape place.node

-- the children and holes of a field
abbrev pub field_of_shape : Shape → ℕ → List (Option Shape)
field_of_shape shape field = unwrap_or (slice_get (out-Shape shape).fields field) []

abbrev pub is_many : Option Holds → Bool
is_many None = false
is_many (Some One) = false
is_many (Some Optional) = false
is_many (Some Many) = true

abbrev pub is_list : Shape → ℕ → Bool
is_list shape field = is_many (held_by (kind_of_shape shape) field)

-- the child that the step leads to
abbrev pub child_of_shape : Shape → Step → Option Shape
child_of_shape shape step = unwrap_or (slice_get (field_of_shape shape step.field) step.index) None

-- the place of this child of the node at a place
abbrev pub place_below : Place → Step → Shape → Place
place_below place step child =
    record { node = child; ascents = record { parent = place.node; step = step } ∷ place.ascents }

abbrev pub child_place : Place → Step → Option Place
child_place place step = option_map (place_below place step) (child_of_shape place.node step)

-- the place to which the path leads from this one, if each of its steps leads to a child
abbrev pub place_from : Place → List Step → Option Place
place_from place [] = Some place
place_from place (step ∷ path) = option_and_then (λ child. place_from child path) (child_place place step)

abbrev pub root_place : Shape → Place
root_place root = record { node = root; ascents = [] }

-- the place of the node to which the path leads from the root
abbrev pub place_at : Shape → List Step → Option Place
place_at root path = place_from (root_place root) path

-- the numbers of a node's children, field by field, where the node has this number
abbrev pub child_numbers : Shape → ℕ → List (List (Option ℕ))
child_numbers shape number = numbers_of_all numbered number (number + 1) (out-Shape shape).fields

abbrev pub child_number : Shape → ℕ → Step → Option ℕ
child_number shape number step = child_in (unwrap_or (slice_get (child_numbers shape number) step.field) []) step.index

-- the number of the node to which the path leads from a node with this number
abbrev pub number_from : Shape → ℕ → List Step → Option ℕ
number_from shape number [] = Some number
number_from shape number (step ∷ path) =
    option_and_then
    (λ child. option_and_then (λ below. number_from child below path) (child_number shape number step))
    (child_of_shape shape step)

-- the number of the node to which the path leads from the root: how many nodes the walk takes before it
abbrev pub number_at : Shape → List Step → Option ℕ
number_at root path = number_from root 0 path

-- the place one step up
abbrev pub place_above : Shape → List Ascent → Place
place_above parent ascents = record { node = parent; ascents = ascents }

abbrev pub parent_place : List Ascent → Option Place
parent_place [] = None
parent_place (ascent ∷ ascents) = Some (place_above ascent.parent ascents)

abbrev pub places_above : List Ascent → List Place
places_above [] = []
places_above (ascent ∷ ascents) = place_above ascent.parent ascents ∷ places_above ascents

-- what the last step, if it leads into a list field, says
abbrev pub in_list : {A : Type 0} → A → (Ascent → List Ascent → A) → List Ascent → A
in_list other says [] = other
in_list other says (ascent ∷ ascents) =
    if is_list ascent.parent ascent.step.field then says ascent ascents else other

-- a field that is no list has one place
abbrev pub stands_in_field : List Ascent → ℕ → Bool
stands_in_field [] field = false
stands_in_field (ascent ∷ ascents) field =
    ascent.step.field == field && (is_list ascent.parent field || ascent.step.index == 0)

abbrev pub field_length : Ascent → ℕ
field_length ascent = length (field_of_shape ascent.parent ascent.step.field)

abbrev pub is_nth : List Ascent → ℕ → Bool
is_nth ascents number = in_list false (λ ascent rest. ascent.step.index + 1 == number) ascents

abbrev pub is_nth_last : List Ascent → ℕ → Bool
is_nth_last ascents number = in_list false (λ ascent rest. ascent.step.index + number == field_length ascent) ascents

-- the child at this index of the field into which the last step leads
abbrev pub sibling : Ascent → List Ascent → ℕ → Option Place
sibling ascent rest index =
    child_place (place_above ascent.parent rest) (record { field = ascent.step.field; index = index })

abbrev pub with_place : Option Place → List Place → List Place
with_place None places = places
with_place (Some place) places = place ∷ places

-- the siblings at the indices below this one
abbrev pub siblings_below : Ascent → List Ascent → ℕ → List Place
siblings_below ascent rest zero = []
siblings_below ascent rest (suc index) = with_place (sibling ascent rest index) (siblings_below ascent rest index)

abbrev pub previous_place : List Ascent → Option Place
previous_place ascents =
    in_list None (λ ascent rest. if ascent.step.index == 0 then None else sibling ascent rest (ascent.step.index - 1)) ascents

abbrev pub earlier_places : List Ascent → List Place
earlier_places ascents = in_list [] (λ ascent rest. siblings_below ascent rest ascent.step.index) ascents

-- the places of the children of one field, from the index on
abbrev pub places_in : Place → ℕ → ℕ → List (Option Shape) → List Place
places_in place field index [] = []
places_in place field index (None ∷ rest) = places_in place field (index + 1) rest
places_in place field index (Some child ∷ rest) =
    place_below place (record { field = field; index = index }) child ∷ places_in place field (index + 1) rest

-- the places of the children of all fields, from the field on
abbrev pub places_in_all : Place → ℕ → List (List (Option Shape)) → List Place
places_in_all place field [] = []
places_in_all place field (list ∷ rest) = places_in place field 0 list ++ places_in_all place (field + 1) rest

abbrev pub child_places : Place → List Place
child_places place = places_in_all place 0 (out-Shape place.node).fields

-- the places below this one, at most so many levels down
abbrev pub places_within : ℕ → Place → List Place
places_within zero place = []
places_within (suc levels) place = flat_map (λ child. child ∷ places_within levels child) (child_places place)

-- the places below a node, as if it were the root; none is as many levels down as the node is high
abbrev pub places_below : Shape → List Place
places_below node = places_within (height node) (root_place node)

abbrev pub place_sight : Sight Place
place_sight = record {
  kind = kind_at;
  value = λ place field. no_child_field (held_by (kind_at place) field) (value_among (out-Shape place.node).attributes field);
  count = λ place field. if is_list place.node field then Some (length (field_of_shape place.node field)) else None;
  child = λ place field index. child_place place (record { field = field; index = index });
  parent = λ place. parent_place place.ascents;
  stands_in = λ place field. stands_in_field place.ascents field;
  is_nth = λ place number. is_nth place.ascents number;
  is_nth_last = λ place number. is_nth_last place.ascents number;
  previous = λ place. previous_place place.ascents;
  earlier = λ place. earlier_places place.ascents;
  above = λ place. places_above place.ascents;
  below = λ place. places_below place.node;
}

-- the selector matches the node at the place
unfoldable pub matches : Spelling → Place → Bool
matches spelling place = chains_match place_sight spelling.chains place
