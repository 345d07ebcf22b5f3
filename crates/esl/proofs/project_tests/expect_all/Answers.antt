use Rattle.std.proofs.Common.{rules}
use Rattle.esl.proofs.KitsLemmas.{one_needs}
use Rattle.esl.proofs.project_tests.expect_all.Goals as goal

pub expect_runs-requires-clause-options : goal.expect_runs-requires-clause-options
expect_runs-requires-clause-options g c =
    one_needs g.R.Rule.meaning c.args.rules.items c.requires.options c.push.new.self.items c.new.result (search rules) (search rules)
