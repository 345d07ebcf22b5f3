use Rattle.std.proofs.Common.{◌≡◌, ◌+◌, ◌-◌, ◌*◌, List, ◌++◌, length, map, take}
use Rattle.std.specs.List.{flat_map}
use Rattle.es_host.specs.Files.{file_in, rows_in}
use Rattle.es_host.specs.Hearing.{EachHeard, events_of}
use Rattle.es_host.specs.Walk.{Moment, children, walk_from}
use Rattle.es_host.proofs.walk.+walk.Given as goal

abbrev pub decreases-walk_children : goal.decreases-walk_children
decreases-walk_children g l = 2 * (length (rows_in (file_in l.file.now)) - l.node)

abbrev pub decreases-walk_from : goal.decreases-walk_from
decreases-walk_from g l = 2 * (length (rows_in (file_in l.file.now)) - l.node) + 1

abbrev pub invariant-walk_children-loop-child : goal.invariant-walk_children-loop-child
invariant-walk_children-loop-child g l =
    let file = file_in l.file in
    let rows = rows_in file in
    let meanings = map g.R.Rule.meaning l.fn.rules in
    (l.path.items ≡ l.fn.path.items)
    × (map g.R.Rule.meaning l.rules ≡ meanings)
    × ((moments : List Moment) → EachHeard g.R.Rule.heard file (events_of meanings file moments) l.fn.rules
    → EachHeard g.R.Rule.heard file (events_of meanings file
    (moments ++ flat_map (walk_from rows l.fn.path.items) (take l.index (children rows l.node)))) l.rules)

abbrev pub decreases-walk_children-loop-child : goal.decreases-walk_children-loop-child
decreases-walk_children-loop-child g l = length (children (rows_in (file_in l.file)) l.node) - l.index
