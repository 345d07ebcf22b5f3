use Rattle.std.proofs.Common.{◌≡◌, ◌∙◌, ap, sym, ◌∷◌, ◌<◌, length, arith}
use Rattle.es_tree.specs.declared.shape.Shape.{Shape, out-Shape}
use borrow.Author.Tests.{ltb-true}
use Rattle.es_tree.specs.Shapes.{height, height_of}
use Rattle.es_grammar.specs.declared.part.TheConstants.{GREATEST_HEIGHT}
use Rattle.es_grammar.specs.Drafts.{index_in, with_children}
use Rattle.es_parser.proofs.HeightLemmas.{too_high}
use Rattle.es_parser.proofs.nodes.with_children.Goals as goal

pub returns-then-is_too_high-clause-high : goal.returns-then-is_too_high-clause-high
returns-then-is_too_high-clause-high c =
    let rest = c.next.new.self.rest.items in
    let steps = c.in-Some.ensures.steps in
    let e : c.loop-child.child-iterator.rest.items ≡ c.in-Some.child ∷ rest = cc in
    let within : index_in c.args.kind c.in-Some.child.field < length (out-Shape c.loop-child.node).fields =
    omega (arith, c.index_in-field.ensures, c.len.ensures, ap (λ (shape : Shape). length (out-Shape shape).fields) c.as_shape.ensures) in
    let high : GREATEST_HEIGHT < height_of c.in-Some.child.shape =
    ltb-true _ _ (sym c.is_too_high.ensures ∙ c.if-is_too_high.true) in
    let inv = c.loop-child.invariant in
    let law = too_high c.heights.ensures.never_lower c.heights.ensures.above c.args.kind GREATEST_HEIGHT c.in-Some.child rest c.loop-child.node within high in
    let same : height (with_children c.args.kind (c.in-Some.child ∷ rest) c.loop-child.node) ≡ height (with_children c.args.kind c.args.children c.args.node) = ap height (ap (λ all. with_children c.args.kind all c.loop-child.node) (sym e) ∙ inv) in
    omega (arith, law, same)
