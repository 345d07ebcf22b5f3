use Rattle.std.proofs.Common.{◌≡◌, ◌++◌, drop}
use Rattle.es_lint.specs.Passes.{fixes_in}
use Rattle.es_lint.proofs.pass.fixes_in.Given as goal

abbrev pub invariant-loop-report : goal.invariant-loop-report
invariant-loop-report l = l.fixes.items ++ fixes_in l.mode (drop l.report-index l.reports) ≡ fixes_in l.mode l.reports
