use Rattle.es_fork.proofs.ChangesLemmas.{written_label}
use Rattle.es_fork.proofs.change.put_label.Goals as goal

pub returns-clause-ok : goal.returns-clause-ok
returns-clause-ok c =
    written_label _ _ _ _ _ _ c.index_of.ensures c.requires.to_last c.index_mut-segment.ensures.value c.in_ok-push.ensures.ok
