use Rattle.std.proofs.Common.{◌∙◌, ap, length}
use Rattle.es_fork.proofs.GraphsLemmas.{Has-index}
use Rattle.es_fork.proofs.lists.joined_edges.Goals as goal

pub pair-requires : goal.pair-requires
pair-requires c = ap length c.as_slice.ensures ∙ c.requires c.part-item.result (Has-index _ _ _ c.loop-part-test.true c.part-item.is)
