use Rattle.std.proofs.Common.{ap, sym, subst}
use Rattle.es_fork.specs.Graphs.{IsOf}
use Rattle.es_fork.specs.Forks.{IsFork}
use Rattle.es_skeleton.proofs.StepsLemmas.{has_index}
use Rattle.es_skeleton.proofs.ForkLemmas.{fork_is}
use Rattle.es_skeleton.proofs.step.end_thrown.Goals as goal

pub end-requires : goal.end-requires
end-requires c =
    let of = subst (λ s. IsOf s c.head-item.result) (sym (ap (λ w. w.segments) c.loop-head.invariant)) (c.requires _ (has_index _ _ _ c.loop-head-test.true c.head-item.is)) in
    subst (λ f. IsFork c.loop-head.graph.segments f.heads) (sym c.in_ok-at.ensures) (fork_is _ _ of)
