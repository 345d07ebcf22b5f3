use Rattle.std.proofs.Common.{◌≡◌, ◌++◌, map, take}
use Rattle.es_fork.specs.Changes.{fresh}
use Rattle.es_fork.proofs.make.grow.Given as goal

abbrev pub invariant-loop-flag : goal.invariant-loop-flag
invariant-loop-flag l = l.segments.items ≡ l.fn.segments.items ++ map fresh (take l.flag-index l.flags)
