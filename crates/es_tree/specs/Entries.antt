-- What flat arrays say of the nodes of a tree.
use Rattle.std.specs.Prelude.{ℕ, List, Option, length}
use Rattle.es_tree.specs.declared.rows.Entry.{Entry}
use Rattle.es_tree.specs.declared.rows.Rows.TheInside.{Inside}
use Rattle.es_tree.specs.declared.shape.SetAttribute.{SetAttribute}
use Rattle.es_tree.specs.Parts.{IsPart, part_of}
use Rattle.es_tree.specs.Rows.{Row}

-- what the nodes have in lists, the lists of all nodes in one array of each kind
pub record Arrays : Type 0 where
  pub fields : List (List (Option ℕ))
  pub children : List ℕ
  pub attributes : List SetAttribute

abbrev pub arrays_of : Inside → Arrays
arrays_of rows = record { fields = rows.fields; children = rows.children.items; attributes = rows.attributes.items }

-- the parts of the entry stand in the arrays
pub record IsEntry (arrays : Arrays) (entry : Entry) : Type 0 where
  pub fields : IsPart (length arrays.fields) entry.fields
  pub children : IsPart (length arrays.children) entry.children
  pub attributes : IsPart (length arrays.attributes) entry.attributes

-- the row of the node that the entry stands for
abbrev pub row_in : Arrays → Entry → Row
row_in arrays entry = record {
  kind = entry.kind;
  span = entry.span;
  parent = entry.parent;
  fields = part_of arrays.fields entry.fields;
  children = part_of arrays.children entry.children;
  attributes = part_of arrays.attributes entry.attributes;
}
