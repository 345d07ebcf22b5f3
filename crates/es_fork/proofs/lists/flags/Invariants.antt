use Rattle.std.proofs.Common.{◌≡◌, take}
use Rattle.es_fork.specs.Changes.{flags}
use Rattle.es_fork.proofs.lists.flags.Given as goal

abbrev pub invariant-loop-head : goal.invariant-loop-head
invariant-loop-head l = l.list.items ≡ flags l.segments (take l.head-index l.heads)
