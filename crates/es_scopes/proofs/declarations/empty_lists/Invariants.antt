use Rattle.std.proofs.Common.{◌≡◌, []}
use Rattle.es_scopes.specs.Declarations.{by_scope}
use Rattle.es_scopes.proofs.declarations.empty_lists.Given as goal

abbrev pub invariant-loop : goal.invariant-loop
invariant-loop l = l.lists ≡ by_scope l.counter []
