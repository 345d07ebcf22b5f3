use Rattle.std.proofs.Common.{◌∙◌, sym, subst}
use Rattle.es_fork.specs.Graphs.{AreOf}
use Rattle.es_fork.specs.Walks.{IsGraph}
use Rattle.es_fork.proofs.WalksLemmas.{graph_cut}
use Rattle.es_fork.proofs.NewLemmas.{all_of, after_graph}
use Rattle.es_fork.proofs.graph.Graph.split_copies.Goals as goal

pub add_after-requires-clause-within : goal.add_after-requires-clause-within
add_after-requires-clause-within c =
    subst (λ graph. AreOf graph.segments c.deref.result.now) (sym c.self.view_is)
    (subst (AreOf c.args.self.now.segments) (sym (c.deref.ensures.value ∙ c.in_ok-heads.ensures)) (all_of c.args.self.now.segments c.args.parts.now (λ part held. (c.requires.forks part held).within)))

pub add_after-requires-clause-closed : goal.add_after-requires-clause-closed
add_after-requires-clause-closed c = graph_cut _ c.self.invariant

pub invariant_of-self-2 : goal.invariant_of-self-2
invariant_of-self-2 c =
    let within = subst (λ graph. AreOf graph.segments c.deref.result.now) (sym c.self.view_is)
    (subst (AreOf c.args.self.now.segments) (sym (c.deref.ensures.value ∙ c.in_ok-heads.ensures)) (all_of c.args.self.now.segments c.args.parts.now (λ part held. (c.requires.forks part held).within))) in
    subst (λ segments. IsGraph (record { segments = segments; returned = c.self.inside.returned.items; thrown = c.self.inside.thrown.items })) (sym c.in_ok-fork.ensures.ok)
    (after_graph _ c.deref.result.now within c.in_ok-fork.ensures.few c.self.invariant)
