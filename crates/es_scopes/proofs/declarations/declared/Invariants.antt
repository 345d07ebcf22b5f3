use Rattle.std.proofs.Common.{◌≡◌, [], length}
use Rattle.es_scopes.specs.Declarations.{by_scope, declared_before}
use Rattle.es_scopes.specs.Gathering.{put_all}
use Rattle.es_scopes.proofs.declarations.declared.Given as goal

abbrev pub invariant-loop-node : goal.invariant-loop-node
invariant-loop-node l = l.lists ≡ put_all (by_scope (length l.places.scopes.items) []) (declared_before l.tree l.node)
