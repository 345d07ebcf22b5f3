use Rattle.es_fork.proofs.ChangesLemmas.{written_edge}
use Rattle.es_fork.proofs.change.put_edge.Goals as goal

pub returns-clause-ok : goal.returns-clause-ok
returns-clause-ok c =
    written_edge _ _ _ _ _ _ c.index_of.ensures c.requires.to_last c.index_mut-segment.ensures.value c.in_ok-push.ensures.ok
