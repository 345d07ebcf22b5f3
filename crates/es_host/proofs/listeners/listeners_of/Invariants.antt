use Rattle.std.proofs.Common.{ℕ, ◌≡◌, ◌<◌, ◌≤◌, List, [], All, length, map}
use Rattle.std.specs.Prelude.{IsTrue}
use Rattle.es_tree.specs.Rows.{Row}
use Rattle.es_selectors.specs.declared.selector.Spelling.{Spelling}
use Rattle.es_host.specs.Files.{file_in}
use Rattle.es_host.specs.Listeners.{Serve, told_by}
use Rattle.es_host.specs.Meanings.{interest_at, is_on, setting_at}
use Rattle.es_host.specs.Walk.{Moment}
use Rattle.es_host.proofs.listeners.listeners_of.Given as goal

abbrev pub invariant-loop-place : goal.invariant-loop-place
invariant-loop-place g l =
    ((k : ℕ) → k < l.place → IsTrue (is_on (setting_at (file_in l.file) k))
    → Serve l.kind (interest_at (map g.R.Rule.meaning l.rules) (file_in l.file) k) k l.listeners.items)
    × ((k : ℕ) (rows : List Row) (interest : List Spelling) (moment : Moment) → l.place ≤ k → told_by rows interest moment k l.listeners.items ≡ [])
    × All (λ listener. listener.rule < length l.rules) l.listeners.items
