use Rattle.std.proofs.Common.{◌≡◌, ◌∙◌, ◌∷◌, [], sym, ap, length, append_assoc, Some, None, arith}
use Rattle.std.proofs.lemmas.Grind.{common_steps}
use Rattle.std.proofs.lemmas.List.{nil_from_length}
use Rattle.std.proofs.lemmas.Result.{on_ok_weaker}
use Rattle.es_tree.specs.Numbering.{numbered}
use Rattle.es_tree.proofs.NumberingLemmas.{number-done, filled-push, filled-hole, all_filled-push, rows-child, numbers-child, rows-field, numbers-field}
use Rattle.es_tree.proofs.number.+number.Goals as goal

pub number-returns : goal.number-returns
number-returns t c = on_ok_weaker c.set_children.result
    (number-done c.args.rows.now c.push.new.self c.number_children.new.rows c.set_children.new.self c.args.shape c.args.parent
    c.in_ok-node.node c.in_ok-numbers.numbers.fields c.in_ok-numbers.numbers.children
    (c.in_ok-node.ensures.ok ∙ c.len.ensures) c.in_ok-push.ensures
    c.in_ok-numbers.ensures.rows c.in_ok-numbers.ensures.fields c.in_ok-numbers.ensures.children)
    c.set_children.ensures

pub number_children-loop-child-preserved-in-Continue-1 : goal.number_children-loop-child-preserved-in-Continue-1
number_children-loop-child-preserved-in-Continue-1 t c =
    let next : c.loop-child.child-iterator.rest.items ≡ None ∷ c.next-in-loop-child.new.self.rest.items =
    c.in-Some-child.ensures.steps.0 ∙ ap (λ child. child ∷ c.next-in-loop-child.new.self.rest.items) c.in-None-child-2.is in
    record {
      rows = rw next at c.loop-child.invariant.rows;
      numbers = rw (c.in_ok-push-in-None-child-2.ensures.ok, append_assoc) (rw next at c.loop-child.invariant.numbers);
      children = grind (arith, common_steps, filled-hole);
    }

pub number_children-loop-child-preserved : goal.number_children-loop-child-preserved
number_children-loop-child-preserved t c =
    let shape = c.in-Some-child-2.shape in
    let rest = c.next-in-loop-child.new.self.rest.items in
    let old = c.loop-child.rows in
    let own = numbered shape (Some c.args.parent) (length old) in
    let more = c.next.new.self.rest.items in
    let next : c.loop-child.child-iterator.rest.items ≡ Some shape ∷ rest =
    c.in-Some-child.ensures.steps.0 ∙ ap (λ child. child ∷ rest) c.in-Some-child-2.is in
    let at : c.in_ok-at-in-Some-child-2.at ≡ length old =
    c.in_ok-at-in-Some-child-2.ensures.ok ∙ c.len.ensures in
    record {
      rows = rw c.in_ok-number-in-Some-child-2.ensures (rows-child c.args.parent old own rest more ∙ (rw next at c.loop-child.invariant.rows));
      numbers = rw (c.in_ok-number-in-Some-child-2.ensures, c.in_ok-push-in-Some-child-2.ensures.ok, at)
          (numbers-child c.args.parent old own c.loop-child.numbers.fields c.loop-child.places (length old) rest more ∙ (rw next at c.loop-child.invariant.numbers));
      children = grind (arith, common_steps, filled-push);
    }

pub number_children-loop-field-preserved : goal.number_children-loop-field-preserved
number_children-loop-field-preserved t c =
    let more = c.next.new.self.rest.items in
    let rows = c.loop-child.rows in
    let done : c.loop-child.child-iterator.rest.items ≡ [] =
    nil_from_length _ (sym c.loop-child.child-iterator.rest.ok.0 ∙ c.in-None-child.ensures.steps.0) in
    record {
      rows = rows-field c.args.parent rows more ∙ (rw done at c.loop-child.invariant.rows);
      numbers = rw c.in_ok-push.ensures.ok
          (numbers-field c.args.parent rows c.loop-child.numbers.fields c.loop-child.places more ∙ (rw done at c.loop-child.invariant.numbers));
      children = grind (arith, common_steps, all_filled-push);
    }
