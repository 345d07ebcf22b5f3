use Rattle.es_early.proofs.ErrorsLemmas.{first-once}
use Rattle.es_early.proofs.law.one_first.Goals as goal

pub returns : goal.returns
returns c = first-once
