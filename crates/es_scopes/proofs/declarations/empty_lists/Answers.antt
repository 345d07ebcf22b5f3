use Rattle.std.proofs.Common.{◌≡◌, ◌∙◌, ℕ, [], ap, arith}
use Rattle.es_scopes.specs.Declarations.{by_scope, declared_in}
use Rattle.es_scopes.proofs.ListLemmas.{filled-more}
use Rattle.es_scopes.proofs.declarations.empty_lists.Goals as goal

pub loop-preserved : goal.loop-preserved
loop-preserved c =
    filled-more (declared_in []) c.loop.counter c.loop.lists c.push.new.self c.new.result c.loop.invariant c.in_ok-push.ensures.ok c.new.ensures

pub returns : goal.returns
returns c =
    let ended : c.loop.counter ≡ c.args.count = omega arith in
    c.loop.invariant ∙ ap (λ (n : ℕ). by_scope n []) ended
