-- Tests that every span of a tree passes, as that it lies in a text.
use Rattle.std.specs.Prelude.{ℕ, ◌≡◌, Bool, true, ◌&&◌, List, [], ◌∷◌, Option, Some, None}
use Rattle.std.specs.List.{list_all}
use Rattle.es_text.specs.declared.span.Span.{Span}
use Rattle.es_tree.specs.declared.shape.AttributeValue.{AttributeValue}
use Rattle.es_tree.specs.declared.shape.Shape.{Shape}
use Rattle.es_tree.specs.declared.shape.Shape.TheOpen.{Shape-F}
use Rattle.es_tree.specs.declared.shape.Shape.TheFolds.{fold-Shape}
use Rattle.es_tree.specs.Numbering.{rows_of}
use Rattle.es_tree.specs.Shapes.{bare, with_attribute, with_child}

-- each child of one field passes, where these are the children's answers
abbrev pub all_pass : List (Option Bool) → Bool
all_pass [] = true
all_pass (None ∷ rest) = all_pass rest
all_pass (Some passes ∷ rest) = passes && all_pass rest

abbrev pub all_fields_pass : List (List (Option Bool)) → Bool
all_fields_pass [] = true
all_fields_pass (field ∷ rest) = all_pass field && all_fields_pass rest

abbrev pub passes_step : (Span → Bool) → Shape-F Bool → Bool
passes_step test node = test node.span && all_fields_pass node.fields

-- the spans of a node and of all below it pass the test
abbrev pub spans_pass : (Span → Bool) → Shape → Bool
spans_pass test = fold-Shape Bool (passes_step test)

-- the spans of a child pass; a hole has none
abbrev pub child_passes : (Span → Bool) → Option Shape → Bool
child_passes test None = true
child_passes test (Some shape) = spans_pass test shape

-- the spans of a node pass where its own span does,
abbrev pub BarePasses : Type 0
BarePasses = (test : Span → Bool) (kind : ℕ) (span : Span) → test span ≡ true → spans_pass test (bare kind span) ≡ true

-- and still do with a child whose spans pass,
abbrev pub WithChildPasses : Type 0
WithChildPasses = (test : Span → Bool) (shape : Shape) (field : ℕ) (child : Option Shape) →
    spans_pass test shape ≡ true → child_passes test child ≡ true → spans_pass test (with_child shape field child) ≡ true

-- and with any attribute
abbrev pub WithAttributePasses : Type 0
WithAttributePasses = (test : Span → Bool) (shape : Shape) (field : ℕ) (value : AttributeValue) →
    spans_pass test shape ≡ true → spans_pass test (with_attribute shape field value) ≡ true

-- where the spans of a tree pass, those of its rows do
abbrev pub RowsPass : Type 0
RowsPass = (test : Span → Bool) (root : Shape) →
    spans_pass test root ≡ true → list_all (λ row. test row.span) (rows_of root) ≡ true
