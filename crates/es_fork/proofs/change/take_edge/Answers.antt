use Rattle.es_fork.proofs.ChangesLemmas.{edge_back}
use Rattle.es_fork.proofs.change.take_edge.Goals as goal

pub returns : goal.returns
returns c = λ held to was.
    edge_back _ held _ _ _ _ to c.index_of.ensures c.requires.to_last c.index_mut-segment.ensures.value c.take_last.ensures was
