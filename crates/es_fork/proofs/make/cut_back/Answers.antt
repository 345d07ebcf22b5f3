use Rattle.std.proofs.Common.{◌∙◌, ap, sym, get_or, map}
use Rattle.es_fork.specs.Edges.{before}
use Rattle.es_fork.proofs.MakingLemmas.{changed_step, changed_all}
use Rattle.es_fork.proofs.make.cut_back.Goals as goal

pub loop-segment-preserved : goal.loop-segment-preserved
loop-segment-preserved c =
    let held = get_or c.loop-segment.segment-items c.loop-segment.segment-index c.segment-item.result in
    changed_step (before c.args.count) _ _ _ c.segment-item.result _ c.loop-segment.invariant c.loop-segment-test.true
    (λ k. record { labels = held.labels; next = c.forget_past.ensures k; reachable = held.reachable })

pub returns : goal.returns
returns c =
    changed_all (before c.args.count) _ _ _ _ _ c.loop-segment.invariant c.loop-segment-test.false (sym c.deref_mut-segment-items.ensures.len ∙ sym c.loop-segment.auto.segment-items)
    ∙ ap (map (before c.args.count)) (c.deref_mut-segment-items.ensures.value ∙ c.truncate.ensures.items)
