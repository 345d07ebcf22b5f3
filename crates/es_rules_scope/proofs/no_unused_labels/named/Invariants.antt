use Rattle.std.proofs.Common.{◌≡◌}
use Rattle.std.specs.List.{flat_map, range_with_len}
use Rattle.es_rules_scope.specs.NoUnusedLabels.{named_by}
use Rattle.es_rules_scope.proofs.no_unused_labels.named.Given as goal

abbrev pub invariant-loop-node : goal.invariant-loop-node
invariant-loop-node l = l.found.items ≡ flat_map (named_by l.tree) (range_with_len 0 l.node)
