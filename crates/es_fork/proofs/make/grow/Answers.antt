use Rattle.std.proofs.Common.{◌∙◌}
use Rattle.es_fork.proofs.ChangesLemmas.{grown_is}
use Rattle.es_fork.proofs.make.grow.Goals as goal

pub returns-clause-ok : goal.returns-clause-ok
returns-clause-ok c = c.loop-flag.invariant ∙ grown_is _ _ _ c.loop-flag-test.false
