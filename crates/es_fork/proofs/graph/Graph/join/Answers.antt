use Rattle.std.proofs.Common.{sym, subst}
use Rattle.es_fork.specs.Graphs.{AreOf, Has}
use Rattle.es_fork.specs.declared.fork.Fork.{Fork}
use Rattle.es_fork.specs.Walks.{IsGraph}
use Rattle.es_fork.proofs.WalksLemmas.{graph_cut}
use Rattle.es_fork.proofs.NewLemmas.{joined_graph}
use Rattle.es_fork.proofs.graph.Graph.join.Goals as goal

pub add_joined-requires-clause-closed : goal.add_joined-requires-clause-closed
add_joined-requires-clause-closed c = graph_cut _ c.self.invariant

pub invariant_of-self-2 : goal.invariant_of-self-2
invariant_of-self-2 c =
    let within : (part : Fork) → Has c.args.parts.now part → AreOf c.self.inside.segments.items part.heads = λ part held. subst (λ graph. AreOf graph.segments part.heads) (sym c.self.view_is) (c.requires.forks.forks part held).within in
    subst (λ segments. IsGraph (record { segments = segments; returned = c.self.inside.returned.items; thrown = c.self.inside.thrown.items })) (sym c.in_ok-fork.ensures.ok)
    (joined_graph _ c.args.parts.now within c.requires.alike c.in_ok-fork.ensures.few c.self.invariant)
