use Rattle.esl.proofs.KitsLemmas.{needs_kept}
use Rattle.esl.proofs.tests.counted_run.Goals as goal

pub returns-clause-options : goal.returns-clause-options
returns-clause-options g c = needs_kept g.R.Rule.meaning c.args.kits.now.items c.run.new.kits.items c.run.ensures.meanings c.requires.options
