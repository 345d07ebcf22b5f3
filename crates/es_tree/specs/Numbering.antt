-- The nodes of a tree by number. The walk takes a node before its children, and the children field by
-- field in the order of the kind's table; a node's number is how many nodes the walk took before it.
use Rattle.std.specs.Prelude.{ℕ, ◌+◌, List, [], ◌∷◌, ◌++◌, length, Option, Some, None}
use Rattle.es_tree.specs.Rows.{Row}
use Rattle.es_tree.specs.declared.shape.Shape.{Shape}
use Rattle.es_tree.specs.declared.shape.Shape.TheOpen.{Shape-F}
use Rattle.es_tree.specs.declared.shape.Shape.TheFolds.{fold-Shape}

-- the rows of a node and of all below it, once its parent and its number are known
abbrev pub Numbering : Type 0
Numbering = Option ℕ → ℕ → List Row

module _ {A : Type 0} (numbering : A → Numbering) where
  -- the rows of one field's children, and of all below them, from the number `next` on
  abbrev pub rows_in : ℕ → ℕ → List (Option A) → List Row
  rows_in parent next [] = []
  rows_in parent next (None ∷ rest) = rows_in parent next rest
  rows_in parent next (Some child ∷ rest) =
      numbering child (Some parent) next
      ++ rows_in parent (next + length (numbering child (Some parent) next)) rest

  -- the numbers of one field's children; a hole has none
  abbrev pub numbers_in : ℕ → ℕ → List (Option A) → List (Option ℕ)
  numbers_in parent next [] = []
  numbers_in parent next (None ∷ rest) = None ∷ numbers_in parent next rest
  numbers_in parent next (Some child ∷ rest) =
      Some next ∷ numbers_in parent (next + length (numbering child (Some parent) next)) rest

  -- the rows of the children of all fields, and of all below them
  abbrev pub rows_of_all : ℕ → ℕ → List (List (Option A)) → List Row
  rows_of_all parent next [] = []
  rows_of_all parent next (field ∷ rest) =
      rows_in parent next field ++ rows_of_all parent (next + length (rows_in parent next field)) rest

  -- the numbers of the children of all fields
  abbrev pub numbers_of_all : ℕ → ℕ → List (List (Option A)) → List (List (Option ℕ))
  numbers_of_all parent next [] = []
  numbers_of_all parent next (field ∷ rest) =
      numbers_in parent next field ∷ numbers_of_all parent (next + length (rows_in parent next field)) rest

-- the numbers of one field, without its holes
abbrev pub filled : List (Option ℕ) → List ℕ
filled [] = []
filled (None ∷ rest) = filled rest
filled (Some number ∷ rest) = number ∷ filled rest

-- the numbers of all fields in order, without the holes
abbrev pub all_filled : List (List (Option ℕ)) → List ℕ
all_filled [] = []
all_filled (field ∷ rest) = filled field ++ all_filled rest

-- the row of a node whose children have these numbers
abbrev pub row_of : {A : Type 0} → Shape-F A → Option ℕ → List (List (Option ℕ)) → Row
row_of node parent numbers = record {
  kind = node.kind;
  span = node.span;
  parent = parent;
  fields = numbers;
  children = all_filled numbers;
  attributes = node.attributes;
}

-- a node with the number `at`, and then its children
abbrev pub node_rows : Shape-F Numbering → Numbering
node_rows node parent at =
    row_of node parent (numbers_of_all (λ child. child) at (at + 1) node.fields)
    ∷ rows_of_all (λ child. child) at (at + 1) node.fields

unfoldable pub numbered : Shape → Numbering
numbered = fold-Shape Numbering node_rows

-- the rows of a whole tree, whose root has the number 0
abbrev pub rows_of : Shape → List Row
rows_of root = numbered root None 0
