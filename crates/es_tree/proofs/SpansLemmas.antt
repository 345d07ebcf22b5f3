-- What a test of spans says of a node that is made, and of the rows of a tree.
use Rattle.std.proofs.Common.{◌≡◌, ◌∙◌, ℕ, zero, suc, ◌+◌, ◌<◌, List, [], ◌∷◌, ◌++◌, length, Bool, true, false, arith, refl, sym, ap, subst, ◌≤◌, ⊎_elim}
use Rattle.std.specs.Prelude.{◌&&◌, Option, Some, None, replicate}
use Rattle.std.specs.List.{list_all}
use Rattle.std.proofs.lemmas.Bool.{cases_lt}
use Rattle.es_text.specs.Lists.{pushed_at}
use Rattle.es_text.specs.declared.span.Span.{Span}
use Rattle.es_tree.specs.Rows.{Row}
use Rattle.es_tree.specs.declared.shape.AttributeValue.{AttributeValue}
use Rattle.es_tree.specs.declared.shape.Shape.{Shape, out-Shape, roll-Shape}
use Rattle.es_tree.specs.declared.shape.Shape.TheOpen.{Shape-F}
use Rattle.es_tree.specs.declared.shape.Shape.TheShapes.{former-Shape-fields, former-Shape-fields-at-2}
use Rattle.es_tree.specs.declared.shape.Shape.TheFolds.{fold-roll-Shape, fold_out-Shape, ind-Shape}
use Rattle.es_tree.specs.declared.shape.Shape.TheViews.{out-roll-Shape}
use Rattle.es_tables.specs.Nodes.{child_fields}
use Rattle.es_tree.specs.Numbering.{rows_in, rows_of_all, numbers_of_all, row_of, numbered, rows_of}
use Rattle.es_tree.specs.Attributes.{attributes_with}
use Rattle.es_tree.specs.Shapes.{bare, with_attribute, with_child}
use Rattle.es_tree.specs.Spans.{all_pass, all_fields_pass, passes_step, spans_pass, child_passes}
use Rattle.es_tree.proofs.NumberingLemmas.{numbered-layer}
use Rattle.es_tree.proofs.ShapesLemmas.{with_child_beyond}

and_first : (a b : Bool) → a && b ≡ true → a ≡ true
and_first true b h = refl
and_first false b h = h

and_second : (a b : Bool) → a && b ≡ true → b ≡ true
and_second true b h = h
and_second false b h = absurd (cc)

and_both : (a b : Bool) → a ≡ true → b ≡ true → a && b ≡ true
and_both true b h k = k
and_both false b h k = h

and_true : (a : Bool) → a && true ≡ a
and_true true = refl
and_true false = refl

-- the order of `&&` is free
and_middle : (a b c : Bool) → (a && b) && c ≡ (a && c) && b
and_middle true true c = sym (and_true c)
and_middle true false true = refl
and_middle true false false = refl
and_middle false b c = refl

and_assoc : (a b c : Bool) → (a && b) && c ≡ a && (b && c)
and_assoc true b c = refl
and_assoc false b c = refl

module _ (test : Span → Bool) where
  answers_in : List (Option Shape) → List (Option Bool)
  answers_in = former-Shape-fields-at-2.map Shape Bool (spans_pass test)

  answers : List (List (Option Shape)) → List (List (Option Bool))
  answers = former-Shape-fields.map Shape Bool (spans_pass test)

  passes_roll : (node : Shape-F Shape) → spans_pass test (roll-Shape node) ≡ test node.span && all_fields_pass (answers node.fields)
  unfolding answers
  passes_roll = fold-roll-Shape Bool (passes_step test)

  passes_out : (shape : Shape) → spans_pass test shape ≡ test (out-Shape shape).span && all_fields_pass (answers (out-Shape shape).fields)
  unfolding answers
  passes_out = fold_out-Shape Bool (passes_step test)

  no_fields : (count : ℕ) → all_fields_pass (answers (replicate count [])) ≡ true
  unfolding answers
  no_fields zero = refl
  no_fields (suc count) = no_fields count

  pub spans_pass-bare : (kind : ℕ) (span : Span) → spans_pass test (bare kind span) ≡ test span
  spans_pass-bare kind span =
      passes_roll (record { kind = kind; span = span; fields = replicate (length (child_fields kind)) []; attributes = [] })
      ∙ ap (λ b. test span && b) (no_fields (length (child_fields kind))) ∙ and_true (test span)

  all_pass-push : (field : List (Option Shape)) (child : Option Shape) → all_pass (answers_in (field ++ child ∷ [])) ≡ all_pass (answers_in field) && child_passes test child
  unfolding answers_in
  all_pass-push [] None = refl
  all_pass-push [] (Some shape) = and_true (spans_pass test shape)
  all_pass-push (None ∷ rest) child = all_pass-push rest child
  all_pass-push (Some shape ∷ rest) child =
      ap (λ b. spans_pass test shape && b) (all_pass-push rest child)
      ∙ sym (and_assoc (spans_pass test shape) (all_pass (former-Shape-fields-at-2.map Shape Bool (spans_pass test) rest)) (child_passes test child))

  all_fields_pass-push : (fields : List (List (Option Shape))) (at : ℕ) (child : Option Shape) → at < length fields →
      all_fields_pass (answers (pushed_at fields at child)) ≡ all_fields_pass (answers fields) && child_passes test child
  unfolding answers answers_in
  all_fields_pass-push [] at child within = absurd (omega (within, arith))
  all_fields_pass-push (field ∷ rest) zero child within =
      ap (λ b. b && all_fields_pass (former-Shape-fields.map Shape Bool (spans_pass test) rest)) (all_pass-push field child)
      ∙ and_middle (all_pass (former-Shape-fields-at-2.map Shape Bool (spans_pass test) field)) (child_passes test child) (all_fields_pass (former-Shape-fields.map Shape Bool (spans_pass test) rest))
  all_fields_pass-push (field ∷ rest) (suc at) child within =
      ap (λ b. all_pass (former-Shape-fields-at-2.map Shape Bool (spans_pass test) field) && b) (all_fields_pass-push rest at child (omega (within, arith)))
      ∙ sym (and_assoc (all_pass (former-Shape-fields-at-2.map Shape Bool (spans_pass test) field)) (all_fields_pass (former-Shape-fields.map Shape Bool (spans_pass test) rest)) (child_passes test child))

  pub spans_pass-with_child : (shape : Shape) (at : ℕ) (child : Option Shape) → at < length (out-Shape shape).fields →
      spans_pass test (with_child shape at child) ≡ spans_pass test shape && child_passes test child
  spans_pass-with_child shape at child within =
      passes_roll (record (out-Shape shape) { fields = pushed_at (out-Shape shape).fields at child })
      ∙ ap (λ b. test (out-Shape shape).span && b) (all_fields_pass-push (out-Shape shape).fields at child within)
      ∙ sym (and_assoc (test (out-Shape shape).span) (all_fields_pass (answers (out-Shape shape).fields)) (child_passes test child))
      ∙ ap (λ b. b && child_passes test child) (sym (passes_out shape))

  -- a child of a field that the node doesn't have is left out
  pub passes-with_child : (shape : Shape) (at : ℕ) (child : Option Shape) → spans_pass test shape ≡ true → child_passes test child ≡ true →
      spans_pass test (with_child shape at child) ≡ true
  passes-with_child shape at child own below =
      ⊎_elim
      (λ (within : at < length (out-Shape shape).fields).
      spans_pass-with_child shape at child within ∙ and_both (spans_pass test shape) (child_passes test child) own below)
      (λ (beyond : length (out-Shape shape).fields ≤ at). ap (spans_pass test) (with_child_beyond shape at child beyond) ∙ own)
      (cases_lt at (length (out-Shape shape).fields))

  pub spans_pass-with_attribute : (shape : Shape) (at : ℕ) (value : AttributeValue) → spans_pass test (with_attribute shape at value) ≡ spans_pass test shape
  spans_pass-with_attribute shape at value =
      passes_roll (record (out-Shape shape) { attributes = attributes_with (out-Shape shape).attributes at value }) ∙ sym (passes_out shape)

  list_all-append : (first second : List Row) → list_all (λ row. test row.span) first ≡ true → list_all (λ row. test row.span) second ≡ true →
      list_all (λ row. test row.span) (first ++ second) ≡ true
  list_all-append [] second f s = s
  list_all-append (row ∷ rest) second f s =
      and_both (test row.span) (list_all (λ r. test r.span) (rest ++ second)) (and_first (test row.span) (list_all (λ r. test r.span) rest) f)
      (list_all-append rest second (and_second (test row.span) (list_all (λ r. test r.span) rest) f) s)

  -- where the spans of a node pass, those of its rows do
  abbrev RowsPass : Shape → Type 0
  RowsPass shape = (parent : Option ℕ) (at : ℕ) → spans_pass test shape ≡ true → list_all (λ row. test row.span) (numbered shape parent at) ≡ true

  abbrev Known : Type 0
  Known = (shape : Shape) × RowsPass shape

  abbrev shapes_in : List (Option Known) → List (Option Shape)
  shapes_in = former-Shape-fields-at-2.map Known Shape (λ known. known.0)

  abbrev shapes : List (List (Option Known)) → List (List (Option Shape))
  shapes = former-Shape-fields.map Known Shape (λ known. known.0)

  rows_pass_in : (parent next : ℕ) (field : List (Option Known)) → all_pass (answers_in (shapes_in field)) ≡ true →
      list_all (λ row. test row.span) (rows_in numbered parent next (shapes_in field)) ≡ true
  unfolding answers_in
  rows_pass_in parent next [] h = refl
  rows_pass_in parent next (None ∷ rest) h = rows_pass_in parent next rest h
  rows_pass_in parent next (Some known ∷ rest) h =
      let others : Bool = all_pass (former-Shape-fields-at-2.map Shape Bool (spans_pass test) (shapes_in rest)) in
      list_all-append (numbered known.0 (Some parent) next) (rows_in numbered parent (next + length (numbered known.0 (Some parent) next)) (shapes_in rest))
      (known.1 (Some parent) next (and_first (spans_pass test known.0) others h))
      (rows_pass_in parent (next + length (numbered known.0 (Some parent) next)) rest (and_second (spans_pass test known.0) others h))

  rows_pass_of_all : (parent next : ℕ) (fields : List (List (Option Known))) → all_fields_pass (answers (shapes fields)) ≡ true →
      list_all (λ row. test row.span) (rows_of_all numbered parent next (shapes fields)) ≡ true
  unfolding answers answers_in
  rows_pass_of_all parent next [] h = refl
  rows_pass_of_all parent next (field ∷ rest) h =
      let one : Bool = all_pass (former-Shape-fields-at-2.map Shape Bool (spans_pass test) (shapes_in field)) in
      let others : Bool = all_fields_pass (former-Shape-fields.map Shape Bool (spans_pass test) (shapes rest)) in
      list_all-append (rows_in numbered parent next (shapes_in field)) (rows_of_all numbered parent (next + length (rows_in numbered parent next (shapes_in field))) (shapes rest))
      (rows_pass_in parent next field (and_first one others h))
      (rows_pass_of_all parent (next + length (rows_in numbered parent next (shapes_in field))) rest (and_second one others h))

  rows_pass : (shape : Shape) → RowsPass shape
  rows_pass = ind-Shape RowsPass (λ node known is parent at h.
      let both : test node.span && all_fields_pass (answers node.fields) ≡ true = sym (passes_roll node) ∙ h in
      let below : list_all (λ row. test row.span) (rows_of_all numbered at (at + 1) node.fields) ≡ true =
      (subst (λ (n : Shape-F Shape). all_fields_pass (answers n.fields) ≡ true → list_all (λ row. test row.span) (rows_of_all numbered at (at + 1) n.fields) ≡ true) is
      (rows_pass_of_all at (at + 1) known.fields)) (and_second (test node.span) (all_fields_pass (answers node.fields)) both) in
      let layer : numbered (roll-Shape node) parent at
      ≡ row_of node parent (numbers_of_all numbered at (at + 1) node.fields) ∷ rows_of_all numbered at (at + 1) node.fields =
      numbered-layer (roll-Shape node) parent at
      ∙ ap (λ (n : Shape-F Shape). row_of n parent (numbers_of_all numbered at (at + 1) n.fields) ∷ rows_of_all numbered at (at + 1) n.fields) (out-roll-Shape node) in
      ap (list_all (λ row. test row.span)) layer
      ∙ and_both (test node.span) (list_all (λ row. test row.span) (rows_of_all numbered at (at + 1) node.fields))
      (and_first (test node.span) (all_fields_pass (answers node.fields)) both) below)

  pub list_all-rows_of : (root : Shape) → spans_pass test root ≡ true → list_all (λ row. test row.span) (rows_of root) ≡ true
  list_all-rows_of root h = rows_pass root None 0 h
