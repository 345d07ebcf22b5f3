use Rattle.es_config.specs.Reading.{known}
use Rattle.es_config.proofs.FineLemmas.{fine_floats, fine_taken}
use Rattle.es_config.proofs.reading.read.Goals as goal

pub returns-clause-taken : goal.returns-clause-taken
returns-clause-taken g c = fine_taken (known (g.K.Known.ids c.args.rules.now) (g.K.Known.verdict c.args.rules.now)) c.config_of.result c.config_of.ensures.fine

pub returns-clause-floats : goal.returns-clause-floats
returns-clause-floats g c = fine_floats (known (g.K.Known.ids c.args.rules.now) (g.K.Known.verdict c.args.rules.now)) c.config_of.result c.config_of.ensures.fine
