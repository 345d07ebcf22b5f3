use Rattle.std.proofs.Common.{◌∙◌, ◌∷◌, ap, sym, length, rules}
use Rattle.es_tree.specs.Around.{with_around}
use Rattle.es_scopes.specs.Chains.{beyond}
use Rattle.es_scopes.proofs.ChainLemmas.{beyond-step}
use Rattle.es_scopes.proofs.chain.OutwardIterator.next.Goals as goal

pub returns-clause-steps : goal.returns-clause-steps
returns-clause-steps c =
    let scopes = c.args.self.now.scopes.now in
    ap (with_around (beyond scopes)) c.in_ok-scope.was
    ∙ ap (λ around. c.in_ok-scope.scope ∷ around) (beyond-step scopes c.args.self.now.nested c.in_ok-scope.scope
    ∙ ap (with_around (beyond scopes)) (sym c.scope_around-self.ensures))

pub returns-clause-goes : goal.returns-clause-goes
returns-clause-goes c =
    let shorter = ap length (returns-clause-steps c) in search (rules, shorter)
