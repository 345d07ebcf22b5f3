use Rattle.std.proofs.Common.{◌≡◌, ◌++◌, [], take, drop}
use Rattle.es_messages.specs.Standings.{told_each}
use Rattle.es_messages.proofs.unused.add_each_unused.Given as goal

abbrev pub invariant-loop-i : goal.invariant-loop-i
invariant-loop-i l =
    l.unused.items ++ told_each l.case.standings.now l.place l.case.severity l.mark (take l.i l.mark.rules) (drop l.i l.mark.rules)
    ≡ l.initial.unused.items ++ told_each l.case.standings.now l.place l.case.severity l.mark [] l.mark.rules
