use Rattle.std.proofs.Common.{◌≡◌}
use Rattle.std.specs.List.{flat_map, range_with_len}
use Rattle.es_scopes.specs.Uses.{reference_at}
use Rattle.es_scopes.proofs.resolved.references.Given as goal

abbrev pub invariant-loop-node : goal.invariant-loop-node
invariant-loop-node l = l.references.items ≡ flat_map (reference_at l.tree) (range_with_len 0 l.node)
