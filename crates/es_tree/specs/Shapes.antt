-- What trees are: their heights, and the child or the attribute that is added to one.
use Rattle.std.specs.Prelude.{ℕ, ◌≡◌, ◌+◌, ◌⊎◌, max, List, [], ◌∷◌, length, replicate, Option, None, Some, IsSome, slice_get}
use Rattle.es_text.specs.declared.span.Span.{Span}
use Rattle.es_text.specs.Lists.{pushed_at}
use Rattle.es_tree.specs.Attributes.{attributes_with}
use Rattle.es_tree.specs.declared.shape.AttributeValue.{AttributeValue}
use Rattle.es_tree.specs.declared.shape.Shape.{Shape, out-Shape, roll-Shape}
use Rattle.es_tree.specs.declared.shape.Shape.TheOpen.{Shape-F}
use Rattle.es_tree.specs.declared.shape.Shape.TheFolds.{fold-Shape}
use Rattle.es_tables.specs.declared.fields.Holds.TheVariants.{Many}
use Rattle.es_tables.specs.Nodes.{child_fields, held_by}

-- the greatest height of a child of one field, or 0
abbrev pub tallest : List (Option ℕ) → ℕ
tallest [] = 0
tallest (None ∷ rest) = tallest rest
tallest (Some height ∷ rest) = max height (tallest rest)

-- the greatest height of a child of any field, or 0
abbrev pub tallest_of_all : List (List (Option ℕ)) → ℕ
tallest_of_all [] = 0
tallest_of_all (field ∷ rest) = max (tallest field) (tallest_of_all rest)

-- the height of a node whose children have these heights
abbrev pub height_step : Shape-F ℕ → ℕ
height_step node = 1 + tallest_of_all node.fields

-- 1 for a node without children, else one more than the greatest height of a child
abbrev pub height : Shape → ℕ
height = fold-Shape ℕ height_step

-- the height of a child, and 0 for a hole
abbrev pub height_of : Option Shape → ℕ
height_of None = 0
height_of (Some shape) = height shape

-- the node with these children, field by field, and without attributes
abbrev pub node_of : ℕ → Span → List (List (Option Shape)) → Shape
node_of kind span fields = roll-Shape (record { kind = kind; span = span; fields = fields; attributes = [] })

-- the node without children and attributes
abbrev pub bare : ℕ → Span → Shape
bare kind span = node_of kind span (replicate (length (child_fields kind)) [])

-- the node with a child, or a hole, at the end of one field
abbrev pub with_child : Shape → ℕ → Option Shape → Shape
with_child shape field child =
    roll-Shape (record (out-Shape shape) { fields = pushed_at (out-Shape shape).fields field child })

-- the node with this value of the attribute, in place of any earlier one
abbrev pub with_attribute : Shape → ℕ → AttributeValue → Shape
with_attribute shape field value =
    roll-Shape (record (out-Shape shape) { attributes = attributes_with (out-Shape shape).attributes field value })

-- the field has a list, which holds nothing yet
abbrev pub HasNone : Shape → ℕ → Type 0
HasNone shape field = slice_get (out-Shape shape).fields field ≡ Some []

-- a hole or a second child comes into a list alone
abbrev pub HasPlace : Shape → ℕ → Option Shape → Type 0
HasPlace shape field child =
    (held_by (out-Shape shape).kind field ≡ Some Many)
    ⊎ (IsSome child × HasNone shape field)
