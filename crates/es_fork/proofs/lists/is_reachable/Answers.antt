use Rattle.std.proofs.Common.{ap}
use Rattle.es_fork.proofs.GraphsLemmas.{segment_is}
use Rattle.es_fork.proofs.lists.is_reachable.Goals as goal

pub returns : goal.returns
returns c = ap (λ r. r.reachable) (segment_is _ _ _ _ c.index_of.ensures c.requires.to_last c.index-segments-index_of.is)
