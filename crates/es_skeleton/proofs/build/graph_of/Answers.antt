use Rattle.std.proofs.Common.{◌∙◌, ap, sym, subst}
use Rattle.es_fork.specs.Graphs.{AreOf}
use Rattle.es_skeleton.specs.declared.completion.Completion.TheVariants.{Normal, Return, Throw}
use Rattle.es_skeleton.specs.Pendings.{heads}
use Rattle.es_skeleton.specs.Built.{Head}
use Rattle.es_skeleton.specs.Shapes.{shape}
use Rattle.es_skeleton.proofs.ExactLemmas.{begin_head, ends_exact}
use Rattle.es_skeleton.proofs.Making.{made_of}
use Rattle.es_skeleton.proofs.NumbersLemmas.{graph_order}
use Rattle.es_skeleton.proofs.build.graph_of.Goals as goal

pub build-requires : goal.build-requires
build-requires c = subst (Head c.in_ok-graph.graph.segments) (sym c.initial-initial.ensures.initial) (begin_head _ c.in_ok-graph.ensures)

pub end_returned-requires : goal.end_returned-requires
end_returned-requires c =
    made_of (subst (Head c.in_ok-graph.graph.segments) (sym c.initial-initial.ensures.initial) (begin_head _ c.in_ok-graph.ensures)) c.in_ok-made.ensures.made Normal _
    (c.deref-2.ensures.value ∙ c.in_ok-normal.ensures ∙ ap (heads Normal) c.deref.ensures.value)

pub end_returned-requires-2 : goal.end_returned-requires-2
end_returned-requires-2 c =
    subst (λ s. AreOf s c.deref-4.result.now) (sym (ap (λ w. w.segments) c.in_ok-end_returned.ensures))
    (made_of (subst (Head c.in_ok-graph.graph.segments) (sym c.initial-initial.ensures.initial) (begin_head _ c.in_ok-graph.ensures)) c.in_ok-made.ensures.made Return _
    (c.deref-4.ensures.value ∙ c.in_ok-returned.ensures ∙ ap (heads Return) c.deref-3.ensures.value))

pub end_thrown-requires : goal.end_thrown-requires
end_thrown-requires c =
    subst (λ s. AreOf s c.deref-6.result.now) (sym (ap (λ w. w.segments) c.in_ok-end_returned-2.ensures ∙ ap (λ w. w.segments) c.in_ok-end_returned.ensures))
    (made_of (subst (Head c.in_ok-graph.graph.segments) (sym c.initial-initial.ensures.initial) (begin_head _ c.in_ok-graph.ensures)) c.in_ok-made.ensures.made Throw _
    (c.deref-6.ensures.value ∙ c.in_ok-thrown.ensures ∙ ap (heads Throw) c.deref-5.ensures.value))

pub returns-clause-exact : goal.returns-clause-exact
returns-clause-exact c =
    ends_exact (shape c.args.skeleton.now) c.in_ok-graph.graph c.build.new.graph c.end_returned.new.graph c.end_returned-2.new.graph c.end_thrown.new.graph c.in_ok-made.made.items _ _ _ _ _ _ _
    c.in_ok-graph.ensures c.initial-initial.ensures.initial c.in_ok-made.ensures.made c.deref.ensures.value c.deref-3.ensures.value c.deref-5.ensures.value
    (c.deref-2.ensures.value ∙ c.in_ok-normal.ensures) (c.deref-4.ensures.value ∙ c.in_ok-returned.ensures) (c.deref-6.ensures.value ∙ c.in_ok-thrown.ensures)
    c.in_ok-end_returned.ensures c.in_ok-end_returned-2.ensures c.in_ok-end_thrown.ensures c.count-count.ensures.graph

pub returns-clause-order : goal.returns-clause-order
returns-clause-order c =
    graph_order c.in_ok-graph.graph c.build.new.graph c.end_returned.new.graph c.end_returned-2.new.graph c.end_thrown.new.graph c.in_ok-graph.ensures
    (subst (Head c.in_ok-graph.graph.segments) (sym c.initial-initial.ensures.initial) (begin_head _ c.in_ok-graph.ensures)) c.in_ok-made.ensures.made
    c.in_ok-end_returned.ensures c.in_ok-end_returned-2.ensures c.in_ok-end_thrown.ensures
