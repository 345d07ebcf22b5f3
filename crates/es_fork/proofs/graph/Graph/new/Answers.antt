use Rattle.std.proofs.Common.{◌≡◌, ◌∙◌, sym, subst, [], ◌∷◌, ◌++◌, true}
use Rattle.es_fork.specs.Changes.{fresh}
use Rattle.es_fork.specs.Walks.{IsGraph}
use Rattle.es_fork.proofs.WalksLemmas.{graph_new}
use Rattle.es_fork.proofs.graph.Graph.new.Goals as goal

pub invariant_of-result : goal.invariant_of-result
invariant_of-result c =
    let segments : c.push.new.self.items ≡ fresh true ∷ [] = c.in_ok-push.ensures.items ∙ (λ k. c.new-segments.ensures.items k ++ c.new.ensures k ∷ []) in
    subst IsGraph (λ k. record { segments = sym segments k; returned = sym c.new-2.ensures.items k; thrown = sym c.new-3.ensures.items k }) graph_new
