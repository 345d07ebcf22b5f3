-- What a selector asks of a node, whatever way a tree and a place in it are given.
use Rattle.std.specs.Prelude.{ℕ, Bool, List, Option}
use Rattle.es_tree.specs.declared.shape.AttributeValue.{AttributeValue}

pub record Sight (P : Type 0) : Type 0 where
  -- the code of the node's kind
  pub kind : P → ℕ
  -- the value of the attribute with this code
  pub value : P → ℕ → Option AttributeValue
  -- how many children and holes stand in the field with this code, if it is a list
  pub count : P → ℕ → Option ℕ
  -- the child in the field at the index, from 0; none where a hole or nothing stands there
  pub child : P → ℕ → ℕ → Option P
  -- the parent, of which the root has none
  pub parent : P → Option P
  -- the node stands in its parent's field with this code
  pub stands_in : P → ℕ → Bool
  -- it is the n-th of its list field, from 1, holes counted, from the front or from the back
  pub is_nth : P → ℕ → Bool
  pub is_nth_last : P → ℕ → Bool
  -- the node that stands directly before it in its list field, with no hole between
  pub previous : P → Option P
  -- the nodes that stand anywhere before it in its list field
  pub earlier : P → List P
  -- its parent, and so on up to the root
  pub above : P → List P
  -- the nodes below it, seen as if it were the root: nothing above it is there
  pub below : P → List P
