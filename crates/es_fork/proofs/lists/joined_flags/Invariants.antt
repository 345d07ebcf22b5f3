use Rattle.std.proofs.Common.{◌≡◌, map}
use Rattle.std.specs.List.{range_with_len}
use Rattle.es_fork.specs.Changes.{joins_reachable}
use Rattle.es_fork.proofs.lists.joined_flags.Given as goal

abbrev pub invariant-loop-index : goal.invariant-loop-index
invariant-loop-index l = l.list.items ≡ map (joins_reachable l.segments l.parts) (range_with_len 0 l.index)
