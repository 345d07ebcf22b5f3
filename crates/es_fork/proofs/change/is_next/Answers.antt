use Rattle.std.proofs.Common.{◌∙◌, sym}
use Rattle.es_fork.proofs.ChangesLemmas.{edge_found, edge_passed, edge_missed}
use Rattle.es_fork.proofs.change.is_next.Goals as goal

pub returns-then-next-to : goal.returns-then-next-to
returns-then-next-to c =
    edge_found _ _ _ _ _ _ _ _ c.index_of.ensures c.requires.to_last c.index-segments-index_of.is c.as_slice-ids.ensures c.loop-next-test.true c.next-item.is
    (sym c.next.view_is ∙ c.if-next-to.true ∙ c.to.view_is)

pub returns : goal.returns
returns c =
    edge_missed _ _ _ _ _ _ _ c.index_of.ensures c.requires.to_last c.index-segments-index_of.is c.as_slice-ids.ensures c.loop-next.invariant c.loop-next-test.false

pub loop-next-preserved : goal.loop-next-preserved
loop-next-preserved c =
    edge_passed _ _ _ _ c.loop-next.invariant c.loop-next-test.true c.next-item.is (λ e. c.if-next-to.false (c.next.view_is ∙ e ∙ sym c.to.view_is))
