use Rattle.std.proofs.Common.{◌∙◌, ◌++◌, ap, sym}
use Rattle.es_scopes.specs.Uses.{reference_at}
use Rattle.es_scopes.proofs.ListLemmas.{flat_map-more}
use Rattle.es_scopes.proofs.resolved.references.Goals as goal

pub loop-node-preserved : goal.loop-node-preserved
loop-node-preserved c =
    let rows = c.args.tree.now in
    let node = c.loop-node.node in
    c.in_ok-put.ensures
    ∙ ap (λ l. c.loop-node.references.items ++ l) c.reference_at.ensures
    ∙ ap (λ l. l ++ reference_at rows node) c.loop-node.invariant
    ∙ sym (flat_map-more (reference_at rows) node)
