use Rattle.std.proofs.Common.{◌≡◌, ◌<◌, ℕ, Option, length, sym, subst, rules}
use Rattle.std.specs.Prelude.{IfSome}
use Rattle.es_scopes.specs.Variables.{resolves}
use Rattle.es_scopes.proofs.InsideLemmas.{resolves-within}
use Rattle.es_scopes.proofs.scopes.Scopes.resolve.Goals as goal

pub returns-clause-within : goal.returns-clause-within
returns-clause-within c =
    let found : c.resolve.result ≡ resolves c.args.self.now.scopes c.args.self.now.variables c.args.scope c.args.name.now = search rules in
    subst (λ (o : Option ℕ). IfSome o (λ v. v < length c.args.self.now.variables)) (sym found)
    (resolves-within c.args.self.now.scopes c.args.self.now.variables c.args.scope c.args.name.now)
