use Rattle.std.proofs.Common.{◌≡◌, ◌++◌, List, map, take}
use Rattle.es_host.specs.Files.{file_of, rows_in}
use Rattle.es_host.specs.Hearing.{EachHeard, events_of}
use Rattle.es_host.specs.Listeners.{told_by}
use Rattle.es_host.specs.Meanings.{interest_at}
use Rattle.es_host.specs.Walk.{Moment, moment}
use Rattle.es_host.proofs.walk.tell_all.Given as goal

abbrev pub invariant-loop-listener : goal.invariant-loop-listener
invariant-loop-listener g l =
    let file = file_of l.ctx in
    let meanings = map g.R.Rule.meaning l.fn.rules in
    (map g.R.Rule.meaning l.rules ≡ meanings)
    × ((moments : List Moment) → EachHeard g.R.Rule.heard file (events_of meanings file moments) l.fn.rules
    → EachHeard g.R.Rule.heard file (λ k. events_of meanings file moments k
    ++ told_by (rows_in file) (interest_at meanings file k) (moment l.leaves l.ctx.ancestors.now l.node) k (take l.listener-index l.listeners)) l.rules)
