use Rattle.std.proofs.Common.{sym, subst}
use Rattle.es_fork.specs.Graphs.{IsOf}
use Rattle.es_fork.proofs.GraphsLemmas.{Has-index, Has-at}
use Rattle.es_fork.proofs.lists.joins_reachable.Goals as goal

pub head_at-requires : goal.head_at-requires
head_at-requires c = c.requires.index c.part-item.result (Has-index _ _ _ c.loop-part-test.true c.part-item.is)

pub is_reachable-requires : goal.is_reachable-requires
is_reachable-requires c =
    let held = Has-index _ _ _ c.loop-part-test.true c.part-item.is in
    subst (IsOf c.args.segments.now) (sym c.head_at.ensures)
    (c.requires.within c.part-item.result held _ (Has-at c.part-item.result.heads c.args.index (c.requires.index c.part-item.result held)))
