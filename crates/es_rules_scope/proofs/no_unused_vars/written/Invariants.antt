use Rattle.std.proofs.Common.{◌≡◌, take}
use Rattle.std.specs.List.{flat_map}
use Rattle.es_rules_scope.specs.NoUnusedVars.{written_by}
use Rattle.es_rules_scope.proofs.no_unused_vars.written.Given as goal

abbrev pub invariant-loop-reference : goal.invariant-loop-reference
invariant-loop-reference l = l.found.items ≡ flat_map written_by (take l.reference-index l.references)
