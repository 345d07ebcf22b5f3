use Rattle.es_skeleton.proofs.CountsLemmas.{counts_once}
use Rattle.es_skeleton.proofs.law.one_count.Goals as goal

pub returns : goal.returns
returns c = counts_once
