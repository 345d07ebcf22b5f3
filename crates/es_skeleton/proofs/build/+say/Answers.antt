use Rattle.std.proofs.Common.{rules, ◌∙◌, ap, sym, subst, take, List}
use Rattle.es_skeleton.specs.declared.completion.Completion.TheVariants.{Normal}
use Rattle.es_skeleton.specs.Controls.{Exit}
use Rattle.es_skeleton.specs.Steps.{said}
use Rattle.es_skeleton.specs.Built.{Head, weight, labels_of}
use Rattle.es_skeleton.specs.Shapes.{shape, onto, then}
use Rattle.es_skeleton.proofs.Making.{head_is, said_head, said_more}
use Rattle.es_skeleton.proofs.ShapesLemmas.{seq_step, part_lighter, weighs, shape_seq, then_labels}
use Rattle.es_skeleton.proofs.build.+say.Goals as goal

pub say-put_label-requires : goal.say-put_label-requires
say-put_label-requires t c = head_is c.requires

pub say_both-say-requires-2 : goal.say_both-say-requires-2
say_both-say-requires-2 t c = (search rules, subst (λ w. Head w.segments c.args.at) (sym c.in_ok-say.ensures) (said_head (labels_of (shape c.args.first.now)) c.requires))

pub say_both-returns : goal.say_both-returns
say_both-returns t c = said_more c.args.graph.now c.say.new.graph c.say-2.new.graph c.args.at (labels_of (shape c.args.first.now)) (labels_of (shape c.args.second.now)) c.in_ok-say.ensures c.in_ok-say-2.ensures

pub say-say_all-requires : goal.say-say_all-requires
say-say_all-requires t c =
    let e = ap (λ k. weight (shape k)) c.in-Seq.is ∙ ap weight (shape_seq c.in-Seq.parts) ∙ ap (λ l. weight (onto (Exit Normal) l)) (sym c.deref-in-Seq.ensures.value) in
    let w = weighs (shape c.args.skeleton.now) in
    (search (rules, e, w), c.requires)

pub say_all-say-requires : goal.say_all-say-requires
say_all-say-requires t c =
    let less = part_lighter c.args.parts.now c.loop-part.part-index c.part-item.result c.loop-part-test.true c.part-item.is in
    (search (rules, less), subst (λ w. Head w.segments c.args.at) (sym c.loop-part.invariant) (said_head (labels_of (onto (Exit Normal) (take c.loop-part.part-index c.args.parts.now))) c.requires))

pub say_all-loop-part-preserved : goal.say_all-loop-part-preserved
say_all-loop-part-preserved t c =
    let before = onto (Exit Normal) (take c.loop-part.part-index c.args.parts.now) in
    let more = ap labels_of (seq_step (Exit Normal) c.args.parts.now c.loop-part.part-index c.part-item.result c.loop-part-test.true ∙ ap (λ k. then k before (shape k)) (sym c.part-item.is)) ∙ then_labels c.part-item.result before in
    said_more c.args.graph.now c.loop-part.graph c.say.new.graph c.args.at (labels_of before) (labels_of (shape c.part-item.result)) c.loop-part.invariant c.in_ok-say.ensures
    ∙ ap {A = List _} (λ l. record c.args.graph.now { segments = said c.args.graph.now.segments c.args.at l }) (sym more)

pub say-returns-in_ok-say_all-in-Seq : goal.say-returns-in_ok-say_all-in-Seq
say-returns-in_ok-say_all-in-Seq t c =
    c.in_ok-say_all-in-Seq.ensures
    ∙ ap (λ k. record c.args.graph.now { segments = said c.args.graph.now.segments c.args.at (labels_of k) })
    (ap (onto (Exit Normal)) c.deref-in-Seq.ensures.value ∙ sym (shape_seq c.in-Seq.parts) ∙ ap shape (sym c.in-Seq.is))
