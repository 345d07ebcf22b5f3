use Rattle.std.proofs.Common.{◌≡◌, ◌++◌, drop, map}
use Rattle.std.specs.List.{enumerate_from}
use Rattle.es_messages.specs.NumberedFixes.{seen}
use Rattle.es_messages.proofs.fixing.numbered.Given as goal

abbrev pub invariant-loop-position : goal.invariant-loop-position
invariant-loop-position l =
    map seen l.all.items ++ enumerate_from l.position (drop l.position l.fixes) ≡ enumerate_from 0 l.fixes
