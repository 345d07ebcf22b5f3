use Rattle.std.proofs.Common.{◌≡◌, ◌-◌}
use Rattle.std.specs.List.{range_with_len}
use Rattle.es_selectors.specs.Selects.{seat_among}
use Rattle.es_selectors.proofs.spot.seat_in.Given as goal

abbrev pub invariant-loop-field : goal.invariant-loop-field
invariant-loop-field l =
    seat_among l.tree l.child l.parent (range_with_len l.field (l.field-end - l.field))
    ≡ seat_among l.tree l.child l.parent (range_with_len 0 l.field-end)
