-- What a node that is being made knows of itself.
use Rattle.std.specs.Prelude.{ℕ, ◌≡◌, ◌≤◌, length}
use Rattle.es_tree.specs.declared.shape.Shape.{Shape, out-Shape}
use Rattle.es_tables.specs.Nodes.{child_fields}
use Rattle.es_tree.specs.Shapes.{height}

pub record HasLevels (shape : Shape) (levels : ℕ) : Type 0 where
  -- the height that is kept is the node's
  pub kept : levels ≡ height shape
  pub bounded : levels ≤ 1001
  -- each child field of its kind has a list
  pub fields : length (out-Shape shape).fields ≡ length (child_fields (out-Shape shape).kind)
