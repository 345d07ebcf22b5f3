use Rattle.std.proofs.Common.{sym, subst}
use Rattle.es_fork.specs.Walks.{IsGraph}
use Rattle.es_fork.proofs.WalksLemmas.{graph_cut}
use Rattle.es_fork.proofs.NewLemmas.{unreachable_graph}
use Rattle.es_fork.proofs.graph.Graph.unreachable.Goals as goal

pub add_unreachable-requires : goal.add_unreachable-requires
add_unreachable-requires c = graph_cut _ c.self.invariant

pub invariant_of-self-2 : goal.invariant_of-self-2
invariant_of-self-2 c =
    subst (λ segments. IsGraph (record { segments = segments; returned = c.self.inside.returned.items; thrown = c.self.inside.thrown.items })) (sym c.in_ok-fork.ensures.ok)
    (unreachable_graph _ c.in_ok-fork.ensures.few c.self.invariant)
