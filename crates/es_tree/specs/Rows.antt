-- The nodes of a finished tree by their numbers, and what their rows say, which is None where no node has the number.
use Rattle.std.specs.Prelude.{ℕ, zero, suc, ◌≡◌, ◌<◌, ◌≤◌, ◌==◌, List, [], ◌∷◌, Option, None, Some, find, length, option_map, slice_get, unwrap_or}
use Rattle.es_tables.specs.declared.fields.Holds.{Holds}
use Rattle.es_tables.specs.declared.fields.Holds.TheVariants.{One, Optional, Many}
use Rattle.es_tables.specs.Nodes.{held_by}
use Rattle.es_text.specs.declared.span.Span.{Span}
use Rattle.es_tree.specs.declared.shape.AttributeValue.{AttributeValue}
use Rattle.es_tree.specs.declared.shape.SetAttribute.{SetAttribute}

-- a node by the numbers of the nodes round it
pub record Row : Type 0 where
  pub kind : ℕ
  pub span : Span
  -- None for the root alone
  pub parent : Option ℕ
  -- for each child field of the kind the children, in which None is a hole
  pub fields : List (List (Option ℕ))
  -- the children of all fields in the order of the walk, without the holes
  pub children : List ℕ
  pub attributes : List SetAttribute

abbrev pub kind_of : List Row → ℕ → Option ℕ
kind_of rows node = option_map (λ row. row.kind) (slice_get rows node)

abbrev pub span_of : List Row → ℕ → Option Span
span_of rows node = option_map (λ row. row.span) (slice_get rows node)

-- the parent's number, of which the root has none
abbrev pub parent_of : List Row → ℕ → Option (Option ℕ)
parent_of rows node = option_map (λ row. row.parent) (slice_get rows node)

abbrev pub children_of : List Row → ℕ → Option (List ℕ)
children_of rows node = option_map (λ row. row.children) (slice_get rows node)

-- the child at this index, from 0, in the order of the walk, or none past the last
abbrev pub child_of : List Row → ℕ → ℕ → Option (Option ℕ)
child_of rows node index = option_map (λ row. slice_get row.children index) (slice_get rows node)

-- the children and holes of a field; where the node has no such child field, there are none
abbrev pub row_places : Row → ℕ → List (Option ℕ)
row_places row field = unwrap_or (slice_get row.fields field) []

abbrev pub places_of : List Row → ℕ → ℕ → Option (List (Option ℕ))
places_of rows node field = option_map (λ row. row_places row field) (slice_get rows node)

-- the child at this index of the field, holes counted; none where a hole stands there, or nothing
abbrev pub child_in : List (Option ℕ) → ℕ → Option ℕ
child_in places index = unwrap_or (slice_get places index) None

abbrev pub field_child_of : List Row → ℕ → ℕ → ℕ → Option (Option ℕ)
field_child_of rows node field index = option_map (λ row. child_in (row_places row field) index) (slice_get rows node)

abbrev pub attributes_of : List Row → ℕ → Option (List SetAttribute)
attributes_of rows node = option_map (λ row. row.attributes) (slice_get rows node)

-- the value that an attribute was given
abbrev pub value_among : List SetAttribute → ℕ → Option AttributeValue
value_among attributes field = option_map (λ given. given.value) (find (λ given. given.field == field) attributes)

-- a child field is no attribute
abbrev pub no_child_field : Option Holds → Option AttributeValue → Option AttributeValue
no_child_field None value = value
no_child_field (Some held) value = None

-- the attribute's value, or none where it has none
abbrev pub value_of : List Row → ℕ → ℕ → Option (Option AttributeValue)
value_of rows node field =
    option_map (λ row. no_child_field (held_by row.kind field) (value_among row.attributes field)) (slice_get rows node)

-- a list field has a length
abbrev pub list_length : Option Holds → List (Option ℕ) → Option ℕ
list_length None places = None
list_length (Some One) places = None
list_length (Some Optional) places = None
list_length (Some Many) places = Some (length places)

-- how many children and holes stand in the field, if it is a list
abbrev pub length_of : List Row → ℕ → ℕ → Option (Option ℕ)
length_of rows node field = option_map (λ row. list_length (held_by row.kind field) (row_places row field)) (slice_get rows node)

-- the row of a node that has no children
abbrev pub childless : ℕ → Span → Option ℕ → List SetAttribute → Row
childless kind span parent attributes = record {
  kind = kind;
  span = span;
  parent = parent;
  fields = [];
  children = [];
  attributes = attributes;
}

-- the rows, with these children of the node
abbrev pub with_children : List Row → ℕ → List (List (Option ℕ)) → List ℕ → List Row
with_children [] node fields children = []
with_children (row ∷ rest) zero fields children = record row { fields = fields; children = children } ∷ rest
with_children (row ∷ rest) (suc node) fields children = row ∷ with_children rest node fields children

-- the nodes of a tree stand in the order of the walk
pub record IsNumbered (rows : List Row) : Type 0 where
  -- the first node is the root
  pub root : parent_of rows 0 ≡ Some None
  -- and the only one
  pub roots : (node : ℕ) → parent_of rows node ≡ Some None → node ≡ 0
  pub parents : (node parent : ℕ) → parent_of rows node ≡ Some (Some parent) → parent < node
  pub children : (node index child : ℕ) → child_of rows node index ≡ Some (Some child) → (node < child) × (child < length rows)
  -- the nodes between a node and its parent stand below that parent, too
  pub nested : (node parent between above : ℕ) → parent_of rows node ≡ Some (Some parent) → parent < between → between ≤ node
      → parent_of rows between ≡ Some (Some above) → parent ≤ above
