use Rattle.std.proofs.Common.{◌∙◌, ◌++◌, ap, sym}
use Rattle.es_host.specs.Files.{file_in}
use Rattle.es_rules_scope.specs.Exports.{listed_at}
use Rattle.es_rules_scope.proofs.RangesLemmas.{below_more}
use Rattle.es_rules_scope.proofs.exports.listed.Goals as goal

pub loop-node-preserved : goal.loop-node-preserved
loop-node-preserved c =
    let file = file_in c.args.file.now in
    let node = c.loop-node.node in
    c.in_ok-put.ensures
    ∙ ap (λ l. c.loop-node.found.items ++ l) c.listed_at.ensures
    ∙ ap (λ l. l ++ listed_at file node) c.loop-node.invariant
    ∙ sym (below_more (listed_at file) node)
