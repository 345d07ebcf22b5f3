use Rattle.std.proofs.Common.{◌≡◌, ◌-◌}
use Rattle.std.specs.List.{list_any, range_with_len}
use Rattle.es_selectors.specs.Selects.{index_from, is_at_in}
use Rattle.es_selectors.proofs.spot.is_at.Given as goal

abbrev pub invariant-loop-field : goal.invariant-loop-field
invariant-loop-field l =
    list_any (is_at_in (index_from l.side l.number) l.tree l.spot.node l.parent) (range_with_len l.field (l.field-end - l.field))
    ≡ list_any (is_at_in (index_from l.side l.number) l.tree l.spot.node l.parent) (range_with_len 0 l.field-end)
