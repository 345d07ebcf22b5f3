use Rattle.std.proofs.Common.{rules}
use Rattle.esl.proofs.KitsLemmas.{one_needs}
use Rattle.esl.proofs.counted_run.Goals as goal

pub run-requires-clause-options : goal.run-requires-clause-options
run-requires-clause-options g c = one_needs g.R.Rule.meaning c.args.rules.items c.requires.options c.push.new.self.items c.new.result (search rules) (search rules)
