use Rattle.es_fork.proofs.GraphsLemmas.{Has-index}
use Rattle.es_fork.proofs.lists.flags.Goals as goal

pub is_reachable-requires : goal.is_reachable-requires
is_reachable-requires c = c.requires c.head-item.result (Has-index _ _ _ c.loop-head-test.true c.head-item.is)
