use Rattle.std.proofs.Common.{rules}
use Rattle.esl.proofs.KitsLemmas.{one_needs}
use Rattle.esl.proofs.tests.run_over.Goals as goal

pub status_of-requires-clause-options : goal.status_of-requires-clause-options
status_of-requires-clause-options g c = one_needs g.R.Rule.meaning c.args.rules.items c.requires.options c.push.new.self.items c.new.result (search rules) (search rules)
