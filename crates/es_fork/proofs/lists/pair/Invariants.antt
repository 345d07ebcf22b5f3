use Rattle.std.proofs.Common.{◌≡◌, ◌++◌, take}
use Rattle.std.specs.List.{zip}
use Rattle.es_fork.proofs.lists.pair.Given as goal

abbrev pub invariant-loop-index : goal.invariant-loop-index
invariant-loop-index l = l.edges.items ≡ l.fn.edges.items ++ zip (take l.index l.from) (take l.index l.to)
