use Rattle.std.proofs.Common.{◌∙◌, sym, subst, ap}
use Rattle.es_fork.specs.Graphs.{AreOf}
use Rattle.es_fork.specs.Walks.{IsGraph}
use Rattle.es_fork.proofs.NewLemmas.{led_from, led_graph}
use Rattle.std.specs.List.{zip}
use Rattle.es_fork.specs.Edges.{AreFrom}
use Rattle.es_fork.specs.Forks.{LeadsOn}
use Rattle.es_fork.specs.Changes.{connected}
use Rattle.es_fork.proofs.graph.Graph.loop_to.Goals as goal

pub lead-requires : goal.lead-requires
lead-requires c =
    let within = subst (λ graph. AreOf graph.segments c.args.from.now.heads) (sym c.self.view_is) c.requires.from.within in
    let edges = c.deref.ensures.value ∙ c.in_ok-edges.ensures ∙ (λ k. zip (c.as_slice.ensures k) (c.as_slice-2.ensures k)) in
    subst (AreFrom c.self.inside.segments.items) (sym edges) (led_from c.self.inside.segments.items c.args.from.now.heads c.args.to.now.heads within c.requires.alike)

pub invariant_of-self-2 : goal.invariant_of-self-2
invariant_of-self-2 c =
    let from = subst (λ graph. AreOf graph.segments c.args.from.now.heads) (sym c.self.view_is) c.requires.from.within in
    let to = subst (λ graph. AreOf graph.segments c.args.to.now.heads) (sym c.self.view_is) c.requires.to.within in
    let leads = subst (λ graph. LeadsOn graph.segments c.args.from.now.heads c.args.to.now.heads) (sym c.self.view_is) c.requires.leads in
    let edges = c.deref.ensures.value ∙ c.in_ok-edges.ensures ∙ (λ k. zip (c.as_slice.ensures k) (c.as_slice-2.ensures k)) in
    subst (λ segments. IsGraph (record { segments = segments; returned = c.self.inside.returned.items; thrown = c.self.inside.thrown.items })) (sym (c.in_ok-lead.ensures.ok ∙ ap (connected c.self.inside.segments.items) edges))
    (led_graph _ c.args.from.now.heads c.args.to.now.heads from to c.requires.alike leads c.self.invariant)
