use Rattle.std.proofs.Common.{◌≡◌, All, length}
use Rattle.es_host.specs.Kits.{NeedsNoOptions}
use Rattle.esl.proofs.project_tests.expect_runs.Given as goal

abbrev pub invariant-loop-case : goal.invariant-loop-case
invariant-loop-case g l = (length l.kits.items ≡ 1) × All (NeedsNoOptions g.R.Rule.meaning) l.kits.items
