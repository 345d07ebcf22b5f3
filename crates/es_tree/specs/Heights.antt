-- What a further child does to the height of a node.
use Rattle.std.specs.Prelude.{ℕ, ◌≡◌, ◌<◌, ◌≤◌, length, Option}
use Rattle.es_text.specs.declared.span.Span.{Span}
use Rattle.es_tree.specs.declared.shape.AttributeValue.{AttributeValue}
use Rattle.es_tree.specs.declared.shape.Shape.{Shape, out-Shape}
use Rattle.es_tree.specs.Shapes.{bare, height, height_of, with_attribute, with_child}

abbrev pub IsNeverLower : Type 0
IsNeverLower = (shape : Shape) (field : ℕ) (child : Option Shape) → height shape ≤ height (with_child shape field child)

abbrev pub StandsAboveChild : Type 0
StandsAboveChild = (shape : Shape) (field : ℕ) (child : Option Shape) → field < length (out-Shape shape).fields →
    height_of child < height (with_child shape field child)

-- a field that the node doesn't have takes nothing
abbrev pub TakesNothingElse : Type 0
TakesNothingElse = (shape : Shape) (field : ℕ) (child : Option Shape) → length (out-Shape shape).fields ≤ field →
    with_child shape field child ≡ shape

-- a node stays within a limit with a child that is lower
abbrev pub StaysWithin : Type 0
StaysWithin = (shape : Shape) (field : ℕ) (child : Option Shape) (limit : ℕ) → height shape ≤ limit → height_of child < limit →
    height (with_child shape field child) ≤ limit

-- an attribute leaves the height
abbrev pub IsAsHigh : Type 0
IsAsHigh = (shape : Shape) (field : ℕ) (value : AttributeValue) → height (with_attribute shape field value) ≡ height shape

abbrev pub IsOneHigh : Type 0
IsOneHigh = (kind : ℕ) (span : Span) → height (bare kind span) ≡ 1
