use Rattle.std.proofs.Common.{◌∙◌, ◌++◌, ap, sym}
use Rattle.es_rules_scope.specs.NoUnusedLabels.{named_by}
use Rattle.es_rules_scope.proofs.RangesLemmas.{below_more}
use Rattle.es_rules_scope.proofs.no_unused_labels.named.Goals as goal

pub loop-node-preserved : goal.loop-node-preserved
loop-node-preserved c =
    let rows = c.args.tree.now in
    let node = c.loop-node.node in
    c.in_ok-put.ensures
    ∙ ap (λ l. c.loop-node.found.items ++ l) c.named_by.ensures
    ∙ ap (λ l. l ++ named_by rows node) c.loop-node.invariant
    ∙ sym (below_more (named_by rows) node)
