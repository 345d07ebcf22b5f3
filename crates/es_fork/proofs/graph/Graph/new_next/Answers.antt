use Rattle.std.proofs.Common.{sym, subst}
use Rattle.es_fork.specs.Graphs.{AreOf}
use Rattle.es_fork.specs.Walks.{IsGraph}
use Rattle.es_fork.proofs.WalksLemmas.{graph_cut}
use Rattle.es_fork.proofs.NewLemmas.{after_graph}
use Rattle.es_fork.proofs.graph.Graph.new_next.Goals as goal

pub add_after-requires-clause-closed : goal.add_after-requires-clause-closed
add_after-requires-clause-closed c = graph_cut _ c.self.invariant

pub invariant_of-self-2 : goal.invariant_of-self-2
invariant_of-self-2 c =
    let within = subst (λ graph. AreOf graph.segments c.as_slice.result.now) (sym c.self.view_is) (subst (AreOf c.args.self.now.segments) (sym c.as_slice.ensures) c.requires.within) in
    subst (λ segments. IsGraph (record { segments = segments; returned = c.self.inside.returned.items; thrown = c.self.inside.thrown.items })) (sym c.in_ok-fork.ensures.ok)
    (after_graph _ c.as_slice.result.now within c.in_ok-fork.ensures.few c.self.invariant)
