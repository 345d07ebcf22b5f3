use Rattle.std.proofs.Common.{◌∙◌, ap, sym, [], ◌∷◌, ◌++◌, append_assoc}
use Rattle.es_fork.proofs.ListsLemmas.{zip_more}
use Rattle.es_fork.proofs.lists.pair.Goals as goal

pub loop-index-preserved : goal.loop-index-preserved
loop-index-preserved c =
    c.in_ok-push.ensures.items ∙ (λ k. c.loop-index.invariant k ++ (c.index-from-index.is k, c.index-to-index.is k) ∷ []) ∙ append_assoc c.args.edges.now.items _ _
    ∙ ap (λ l. c.args.edges.now.items ++ l) (sym (zip_more c.args.from.now c.args.to.now c.loop-index.index c.index-from-index.result c.index-to-index.result c.loop-index-test.true c.requires))
