use Rattle.es_fork.proofs.ChangesLemmas.{label_back}
use Rattle.es_fork.proofs.change.take_label.Goals as goal

pub returns : goal.returns
returns c = λ held label was.
    label_back _ held _ _ _ _ label c.index_of.ensures c.requires.to_last c.index_mut-segment.ensures.value c.take_last.ensures was
