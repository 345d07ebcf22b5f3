use Rattle.std.proofs.Common.{◌≡◌, take}
use Rattle.std.specs.Prelude.{false}
use Rattle.std.specs.List.{list_any}
use Rattle.es_host.specs.Files.{file_in}
use Rattle.es_rules_scope.specs.Marks.{has}
use Rattle.es_rules_scope.specs.NoUnusedVars.{writing}
use Rattle.es_rules_scope.proofs.no_unused_vars.has_writing.Given as goal

abbrev pub invariant-loop-node : goal.invariant-loop-node
invariant-loop-node l = list_any (has (writing (file_in l.file))) (take l.node-index l.nodes) ≡ false
