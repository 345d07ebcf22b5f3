use Rattle.std.proofs.Common.{◌≡◌, ◌∙◌, ◌+◌, ◌<◌, ◌≤◌, ℕ, length, max, ap, sym, subst, arith}
use Rattle.std.specs.Prelude.{◌&&◌, Option}
use Rattle.es_text.specs.Lists.{pushed_at}
use Rattle.es_tables.specs.Nodes.{HasField, child_fields}
use Rattle.es_tree.specs.declared.shape.Shape.{Shape, out-Shape, roll-Shape}
use Rattle.es_tree.specs.Shapes.{height, height_of, with_child}
use Rattle.es_tree.specs.Spans.{child_passes, spans_pass}
use Rattle.es_tree.proofs.ShapesLemmas.{added, field_within, height-with_child, length-pushed_at, lists-kept, with_child_beyond}
use Rattle.es_tree.proofs.SpansLemmas.{spans_pass-with_child}
use Rattle.es_tree.proofs.node.Node.put.Goals as goal

pub returns-then-field-len-clause-ok : goal.returns-then-field-len-clause-ok
returns-then-field-len-clause-ok c =
    subst (λ shape. shape ≡ with_child shape c.args.field c.args.child) c.self.view_is (sym (with_child_beyond c.self.inside.shape c.args.field c.args.child (omega arith)))

-- the field has a list
within : (shape : Shape) (field count : ℕ) → HasField (out-Shape shape).kind field → count ≡ length (child_fields (out-Shape shape).kind) → field < count
within shape field count has same = omega (arith, field_within (out-Shape shape).kind field has, same)

beyond : (c : goal.Joined-child) → length (out-Shape c.self.inside.shape).fields ≤ c.args.field
beyond c = subst (λ (count : ℕ). count ≤ c.args.field) c.len.ensures c.if-field-len.true

listed_at : (c : goal.Joined-child) → HasField (out-Shape c.args.self.now).kind c.args.field → c.args.field < length (out-Shape c.self.inside.shape).fields
listed_at c has =
    within c.self.inside.shape c.args.field (length (out-Shape c.self.inside.shape).fields)
    (subst (λ (shape : Shape). HasField (out-Shape shape).kind c.args.field) (sym c.self.view_is) has) c.self.invariant.fields

pub returns-then-field-len-clause-height : goal.returns-then-field-len-clause-height
returns-then-field-len-clause-height c = λ has. absurd (omega (arith, beyond c, listed_at c has))

pub returns-then-field-len-clause-spans : goal.returns-then-field-len-clause-spans
returns-then-field-len-clause-spans c = λ has. absurd (omega (arith, beyond c, listed_at c has))

-- the lists with the child
lists_with : (c : goal.After-self-1) → c.push_at.new.lists ≡ pushed_at (out-Shape c.self.inside.shape).fields c.args.field c.args.child
lists_with c =
    c.in_ok-push_at.ensures.ok
    ∙ ap (λ (child : Option Shape). pushed_at (out-Shape c.self.inside.shape).fields c.args.field child) c.with_levels-shape.ensures.shape

listed : (c : goal.After-self-1) → c.args.field < length (out-Shape c.self.inside.shape).fields
listed c = omega (arith, c.len.ensures, c.if-field-len.false)

abbrev made : goal.After-self-1 → Shape
made c = roll-Shape (record (out-Shape c.self.inside.shape) { fields = c.push_at.new.lists })

tall : (c : goal.After-self-1) → height (made c) ≡ max (height c.self.inside.shape) (height_of c.args.child + 1)
tall c =
    added (λ shape. height shape ≡ max (height c.self.inside.shape) (height_of c.args.child + 1)) c.self.inside.shape c.args.field c.args.child
    c.push_at.new.lists (lists_with c) (height-with_child c.self.inside.shape c.args.field c.args.child (listed c))

pub invariant_of-self-2 : goal.invariant_of-self-2
invariant_of-self-2 c = record {
  kept = omega (arith, tall c, c.max-self-inside.ensures, c.with_levels-shape.ensures.levels, c.self.invariant.kept);
  bounded = omega (arith, c.max-self-inside.ensures, c.with_levels-shape.ensures.levels, c.self.invariant.bounded, c.requires.low);
  fields = lists-kept c.self.inside.shape c.push_at.new.lists
      (ap length (lists_with c) ∙ (length-pushed_at (out-Shape c.self.inside.shape).fields c.args.field c.args.child ∙ c.self.invariant.fields));
}

pub returns-clause-height : goal.returns-clause-height
returns-clause-height c = λ has. tall c ∙ ap (λ (shape : Shape). max (height shape) (height_of c.args.child + 1)) c.self.view_is

pub returns-clause-spans : goal.returns-clause-spans
returns-clause-spans c = λ has test.
    added (λ shape. spans_pass test shape ≡ spans_pass test c.self.inside.shape && child_passes test c.args.child) c.self.inside.shape c.args.field
    c.args.child c.push_at.new.lists (lists_with c) (spans_pass-with_child test c.self.inside.shape c.args.field c.args.child (listed c))
    ∙ ap (λ (shape : Shape). spans_pass test shape && child_passes test c.args.child) c.self.view_is
