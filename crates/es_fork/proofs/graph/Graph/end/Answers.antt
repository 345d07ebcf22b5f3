use Rattle.std.proofs.Common.{sym, subst}
use Rattle.es_fork.specs.Graphs.{AreOf}
use Rattle.es_fork.specs.Walks.{IsGraph}
use Rattle.es_fork.proofs.WalksLemmas.{graph_ended, graph_thrown}
use Rattle.es_fork.proofs.graph.Graph.end.Goals as goal

pub invariant_of-self-then-thrown : goal.invariant_of-self-then-thrown
invariant_of-self-then-thrown c =
    let within = subst (λ graph. AreOf graph.segments c.as_slice-heads.result.now) (sym c.self.view_is) (subst (AreOf c.args.self.now.segments) (sym c.as_slice-heads.ensures) c.requires.within) in
    subst (λ thrown. IsGraph (record { segments = c.self.inside.segments.items; returned = c.self.inside.returned.items; thrown = thrown })) (sym c.in_ok-extend_from_slice.ensures.items)
    (graph_thrown _ c.as_slice-heads.result.now within c.self.invariant)

pub invariant_of-self-2 : goal.invariant_of-self-2
invariant_of-self-2 c =
    let within = subst (λ graph. AreOf graph.segments c.as_slice-heads.result.now) (sym c.self.view_is) (subst (AreOf c.args.self.now.segments) (sym c.as_slice-heads.ensures) c.requires.within) in
    subst (λ returned. IsGraph (record { segments = c.self.inside.segments.items; returned = returned; thrown = c.self.inside.thrown.items })) (sym c.in_ok-extend_from_slice-2.ensures.items)
    (graph_ended _ c.as_slice-heads.result.now within c.self.invariant)
