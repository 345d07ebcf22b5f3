use Rattle.std.proofs.Common.{◌≡◌, ◌+◌, ◌-◌}
use Rattle.std.specs.List.{range_with_len}
use Rattle.es_fork.proofs.lists.new_ids.Given as goal

abbrev pub invariant-loop-before : goal.invariant-loop-before
invariant-loop-before l = l.ids.items ≡ range_with_len (l.fn.last + 1) (l.before - l.fn.last)
