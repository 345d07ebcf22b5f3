use Rattle.std.proofs.Common.{◌≡◌, ◌++◌, take}
use Rattle.es_lint.specs.Bad.{misshapen_in}
use Rattle.es_lint.proofs.bad.add_misshapen.Given as goal

abbrev pub invariant-loop-part : goal.invariant-loop-part
invariant-loop-part l = l.reports.items ≡ l.initial.reports.items ++ misshapen_in l.span (take l.part-index l.parts)
