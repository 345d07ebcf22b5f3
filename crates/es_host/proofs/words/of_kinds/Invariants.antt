use Rattle.std.proofs.Common.{◌≡◌, map, take}
use Rattle.es_host.specs.Nodes.{of_kind}
use Rattle.es_host.proofs.words.of_kinds.Given as goal

abbrev pub invariant-loop-kind : goal.invariant-loop-kind
invariant-loop-kind l = l.selectors.items ≡ map of_kind (take l.kind-index l.kinds)
