use Rattle.std.proofs.Common.{◌≡◌}
use Rattle.std.specs.List.{flat_map, range_with_len}
use Rattle.es_host.specs.Files.{file_in}
use Rattle.es_rules_scope.specs.Exports.{listed_at}
use Rattle.es_rules_scope.proofs.exports.listed.Given as goal

abbrev pub invariant-loop-node : goal.invariant-loop-node
invariant-loop-node l = l.found.items ≡ flat_map (listed_at (file_in l.file)) (range_with_len 0 l.node)
