use Rattle.std.proofs.Common.{rules}
use Rattle.esl.proofs.KitsLemmas.{one_needs}
use Rattle.esl.proofs.fix_tests.expect_fixed.Goals as goal

pub loop-case-init : goal.loop-case-init
loop-case-init g c = (
  search rules,
  one_needs g.R.Rule.meaning c.args.rules.items c.requires.options c.push.new.self.items c.new.result (search rules) (search rules),
)
