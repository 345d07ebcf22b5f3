use Rattle.std.proofs.Common.{◌≡◌, sym, arith}
use Rattle.es_tree.specs.Levels.{HasLevels}
use Rattle.es_tree.specs.Shapes.{height, HasNone}
use Rattle.es_tree.specs.Spans.{spans_pass}
use Rattle.es_tree.proofs.ShapesLemmas.{made, field_within, height-bare, none-bare, fields-bare}
use Rattle.es_tree.proofs.SpansLemmas.{spans_pass-bare}
use Rattle.es_tree.proofs.node.Node.bare.Goals as goal

pub invariant_of-result : goal.invariant_of-result
invariant_of-result c =
    made (λ shape. HasLevels shape 1) c.args.kind c.count_child_fields.result c.args.span c.in_ok-no_children.field-0 c.new.result c.in_ok-no_children.ensures c.count_child_fields.ensures c.new.ensures
    (record { kept = sym (height-bare c.args.kind c.args.span); bounded = omega arith; fields = fields-bare c.args.kind c.args.span })

pub returns-clause-empty : goal.returns-clause-empty
returns-clause-empty c = λ field has.
    made (λ shape. HasNone shape field) c.args.kind c.count_child_fields.result c.args.span c.in_ok-no_children.field-0 c.new.result c.in_ok-no_children.ensures c.count_child_fields.ensures c.new.ensures
    (none-bare c.args.kind c.args.span field (field_within c.args.kind field has))

pub returns-clause-height : goal.returns-clause-height
returns-clause-height c =
    made (λ shape. height shape ≡ 1) c.args.kind c.count_child_fields.result c.args.span c.in_ok-no_children.field-0 c.new.result c.in_ok-no_children.ensures c.count_child_fields.ensures c.new.ensures
    (height-bare c.args.kind c.args.span)

pub returns-clause-spans : goal.returns-clause-spans
returns-clause-spans c = λ test.
    made (λ shape. spans_pass test shape ≡ test c.args.span) c.args.kind c.count_child_fields.result c.args.span c.in_ok-no_children.field-0 c.new.result c.in_ok-no_children.ensures c.count_child_fields.ensures c.new.ensures
    (spans_pass-bare test c.args.kind c.args.span)
