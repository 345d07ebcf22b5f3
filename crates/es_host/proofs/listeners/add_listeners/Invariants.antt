use Rattle.std.proofs.Common.{ℕ, ◌≡◌, ◌≢◌, ◌<◌, List, ◌++◌, All, Some}
use Rattle.std.specs.List.{flat_map, range_with_len}
use Rattle.es_tree.specs.Rows.{Row, kind_of}
use Rattle.es_selectors.specs.declared.selector.Spelling.{Spelling}
use Rattle.es_host.specs.Lawful.{told_of}
use Rattle.es_host.specs.Listeners.{told_by}
use Rattle.es_host.specs.Walk.{Moment}
use Rattle.es_host.proofs.listeners.add_listeners.Given as goal

abbrev pub invariant-loop-i : goal.invariant-loop-i
invariant-loop-i l =
    ((rows : List Row) (moment : Moment) → kind_of rows moment.node ≡ Some l.kind
    → told_by rows l.interest moment l.rule l.listeners.items
    ≡ told_by rows l.interest moment l.rule l.fn.listeners.items ++ flat_map (told_of rows l.interest moment) (range_with_len 0 l.i))
    × ((rows : List Row) (wanted : List Spelling) (moment : Moment) (place : ℕ) → place ≢ l.rule
    → told_by rows wanted moment place l.listeners.items ≡ told_by rows wanted moment place l.fn.listeners.items)
    × ((count : ℕ) → l.rule < count → All (λ listener. listener.rule < count) l.fn.listeners.items → All (λ listener. listener.rule < count) l.listeners.items)
