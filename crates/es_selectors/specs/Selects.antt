-- What a selector matches among the rows of a tree's nodes, by their numbers: what `matches` on plain trees comes to.
use Rattle.std.specs.Prelude.{ℕ, zero, suc, ◌+◌, ◌-◌, ◌==◌, Bool, true, false, ◌||◌, nat_eq, nat_le, List, [], ◌∷◌, length, Option, Some, None, find, if◌then◌else◌, map, nat_lt, option_and_then, option_map, unwrap_or}
use Rattle.std.specs.List.{list_any, range_with_len}
use Rattle.std.specs.Option.{option_eq, option_map_or}
use Rattle.es_tables.specs.Nodes.{child_fields}
use Rattle.es_tree.specs.Rows.{Row, field_child_of, kind_of, length_of, parent_of, value_of}
use Rattle.es_selectors.specs.declared.selector.Spelling.{Spelling}
use Rattle.es_selectors.specs.declared.spot.Seat.{Seat}
use Rattle.es_selectors.specs.declared.spot.Side.{Side}
use Rattle.es_selectors.specs.declared.spot.Side.TheVariants.{Front, Back}
use Rattle.es_selectors.specs.declared.spot.Spot.{Spot}
use Rattle.es_selectors.specs.Matches.{chains_match}
use Rattle.es_selectors.specs.Sights.{Sight}

abbrev pub kind_in : List Row → ℕ → ℕ
kind_in rows node = unwrap_or (kind_of rows node) 0

abbrev pub count_in : List Row → ℕ → ℕ → Option ℕ
count_in rows node field = unwrap_or (length_of rows node field) None

-- the number, if a node has it
abbrev pub within : List Row → Option ℕ → Option ℕ
within rows None = None
within rows (Some node) = if nat_lt node (length rows) then Some node else None

abbrev pub child_at : List Row → ℕ → ℕ → ℕ → Option ℕ
child_at rows node field index = within rows (unwrap_or (field_child_of rows node field index) None)

abbrev pub parent_in : List Row → ℕ → Option ℕ
parent_in rows node = unwrap_or (parent_of rows node) None

abbrev pub is_child_at : List Row → ℕ → ℕ → ℕ → ℕ → Bool
is_child_at rows node parent field index = option_eq nat_eq (child_at rows parent field index) (Some node)

-- another node of the same tree
abbrev pub spot_of : ℕ → ℕ → Spot
spot_of top node = record { top = top; node = node }

-- the number, if it comes before
abbrev pub if_before : ℕ → Option ℕ → Option ℕ
if_before node None = None
if_before node (Some parent) = if nat_lt parent node then Some parent else None

-- the parent's number, which comes before the node's
abbrev pub up : List Row → Spot → Option ℕ
up rows spot = if spot.node == spot.top then None else if_before spot.node (parent_in rows spot.node)

-- the child fields of the node
abbrev pub fields_in : List Row → ℕ → List ℕ
fields_in rows node = range_with_len 0 (length (child_fields (kind_in rows node)))

-- the first index, of so many, at which the field has the child
abbrev pub find_index : List Row → ℕ → ℕ → ℕ → ℕ → Option ℕ
find_index rows child parent field count = find (is_child_at rows child parent field) (range_with_len 0 count)

abbrev pub is_some : Option ℕ → Bool
is_some None = false
is_some (Some index) = true

-- a field that is no list has one place
abbrev pub stands_in_field : List Row → Spot → ℕ → Bool
stands_in_field rows spot field =
    option_map_or
    (λ parent. is_some (find_index rows spot.node parent field (unwrap_or (count_in rows parent field) 1)))
    (up rows spot) false

-- the field is a list that has the child at the index that the number of its places gives
abbrev pub is_at_in : (ℕ → Option ℕ) → List Row → ℕ → ℕ → ℕ → Bool
is_at_in index_of rows child parent field =
    option_map_or
    (λ count. option_map_or (is_child_at rows child parent field) (index_of count) false)
    (count_in rows parent field) false

-- some list field of the parent has the node there
abbrev pub is_at : (ℕ → Option ℕ) → List Row → Spot → Bool
is_at index_of rows spot =
    option_map_or (λ parent. list_any (is_at_in index_of rows spot.node parent) (fields_in rows parent)) (up rows spot) false

-- the index, from 0, that a number from 1 gives among so many places, counted from this side
abbrev pub index_at : Side → ℕ → ℕ → ℕ
index_at Front number count = number - 1
index_at Back number count = count - number

abbrev pub index_from : Side → ℕ → ℕ → Option ℕ
index_from side number count =
    if number == 0 || nat_lt count number then None else Some (index_at side number count)

abbrev pub index_in : List Row → ℕ → ℕ → ℕ → Option ℕ
index_in rows node parent field =
    option_and_then (find_index rows node parent field) (count_in rows parent field)

abbrev pub seat_of : ℕ → ℕ → ℕ → Seat
seat_of parent field index = record { parent = parent; field = field; index = index }

abbrev pub seat_or : Option Seat → ℕ → ℕ → Option ℕ → Option Seat
seat_or other parent field None = other
seat_or other parent field (Some index) = Some (seat_of parent field index)

-- the first of these list fields that has the node
abbrev pub seat_among : List Row → ℕ → ℕ → List ℕ → Option Seat
seat_among rows node parent [] = None
seat_among rows node parent (field ∷ fields) =
    seat_or (seat_among rows node parent fields) parent field (index_in rows node parent field)

abbrev pub seat : List Row → Spot → Option Seat
seat rows spot = option_and_then (λ parent. seat_among rows spot.node parent (fields_in rows parent)) (up rows spot)

-- the number, if it is of a child of the parent
abbrev pub if_child_of : List Row → ℕ → ℕ → Option ℕ → Option ℕ
if_child_of rows top parent None = None
if_child_of rows top parent (Some node) =
    if option_eq nat_eq (up rows (spot_of top node)) (Some parent) then Some node else None

abbrev pub sibling_at : List Row → ℕ → Seat → ℕ → Option ℕ
sibling_at rows top place index = if_child_of rows top place.parent (child_at rows place.parent place.field index)

abbrev pub cons_or_skip : Option ℕ → List ℕ → List ℕ
cons_or_skip None numbers = numbers
cons_or_skip (Some number) numbers = number ∷ numbers

-- the siblings at the indices below this one, the last first
abbrev pub siblings_below : List Row → ℕ → Seat → ℕ → List ℕ
siblings_below rows top place zero = []
siblings_below rows top place (suc index) =
    cons_or_skip (sibling_at rows top place index) (siblings_below rows top place index)

abbrev pub previous_of : List Row → Spot → Option ℕ
previous_of rows spot =
    option_and_then (λ place. if place.index == 0 then None else sibling_at rows spot.top place (place.index - 1)) (seat rows spot)

abbrev pub earlier_of : List Row → Spot → List ℕ
earlier_of rows spot = option_map_or (λ place. siblings_below rows spot.top place place.index) (seat rows spot) []

abbrev pub one_or_more : List Spot → (ℕ → List Spot) → Option ℕ → List Spot
one_or_more none more None = none
one_or_more none more (Some parent) = more parent

-- the nodes above, of which there are this many at most
abbrev pub above_within : ℕ → List Row → Spot → List Spot
above_within zero rows spot = []
above_within (suc most) rows spot =
    one_or_more []
    (λ parent. spot_of spot.top parent ∷ above_within most rows (spot_of spot.top parent))
    (up rows spot)

-- a node's parent comes before it
abbrev pub above_of : List Row → Spot → List Spot
above_of rows spot = above_within spot.node rows spot

-- the node isn't above this one, nor beside it
abbrev pub stands_below : List Row → ℕ → ℕ → Bool
stands_below rows top node = option_map_or (nat_le top) (parent_in rows node) false

-- those in front of the first that fails
abbrev pub front : (ℕ → Bool) → List ℕ → List ℕ
front passes [] = []
front passes (number ∷ numbers) = if passes number then number ∷ front passes numbers else []

-- the numbers of the nodes below, which come directly behind the node's
abbrev pub numbers_below : List Row → ℕ → List ℕ
numbers_below rows top = front (stands_below rows top) (range_with_len (top + 1) (length rows - (top + 1)))

abbrev pub below_of : List Row → ℕ → List Spot
below_of rows top = map (spot_of top) (numbers_below rows top)

abbrev pub earlier_spots : List Row → Spot → List Spot
earlier_spots rows spot = map (spot_of spot.top) (earlier_of rows spot)

abbrev pub row_sight : List Row → Sight Spot
row_sight rows = record {
  kind = λ spot. kind_in rows spot.node;
  value = λ spot field. unwrap_or (value_of rows spot.node field) None;
  count = λ spot field. count_in rows spot.node field;
  child = λ spot field index. option_map (spot_of spot.top) (child_at rows spot.node field index);
  parent = λ spot. option_map (spot_of spot.top) (up rows spot);
  stands_in = stands_in_field rows;
  is_nth = λ spot number. is_at (index_from Front number) rows spot;
  is_nth_last = λ spot number. is_at (index_from Back number) rows spot;
  previous = λ spot. option_map (spot_of spot.top) (previous_of rows spot);
  earlier = earlier_spots rows;
  above = above_of rows;
  below = λ spot. below_of rows spot.node;
}

-- the selector matches the node with this number
unfoldable pub selects : Spelling → List Row → ℕ → Bool
selects spelling rows node = chains_match (row_sight rows) spelling.chains (spot_of 0 node)
