use Rattle.std.proofs.Common.{◌≡◌, ◌-◌}
use Rattle.std.specs.Prelude.{find}
use Rattle.std.specs.List.{range_with_len}
use Rattle.es_selectors.specs.Selects.{is_child_at}
use Rattle.es_selectors.proofs.spot.find_index.Given as goal

abbrev pub invariant-loop-index : goal.invariant-loop-index
invariant-loop-index l =
    find (is_child_at l.tree l.child l.parent l.field) (range_with_len l.index (l.count - l.index))
    ≡ find (is_child_at l.tree l.child l.parent l.field) (range_with_len 0 l.count)
