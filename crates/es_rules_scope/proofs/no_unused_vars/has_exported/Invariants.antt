use Rattle.std.proofs.Common.{◌≡◌, take}
use Rattle.std.specs.Prelude.{false}
use Rattle.std.specs.List.{list_any}
use Rattle.es_rules_scope.specs.Exports.{is_exported}
use Rattle.es_rules_scope.proofs.no_unused_vars.has_exported.Given as goal

abbrev pub invariant-loop-node : goal.invariant-loop-node
invariant-loop-node l = list_any (is_exported l.tree) (take l.node-index l.nodes) ≡ false
