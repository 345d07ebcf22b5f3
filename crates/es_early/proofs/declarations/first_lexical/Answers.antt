use Rattle.std.proofs.Common.{◌∙◌, ap, sym}
use Rattle.es_early.specs.Lookups.{declares_lexically}
use Rattle.es_early.specs.Notes.{noted}
use Rattle.es_early.proofs.NotesLemmas.{first_of-more}
use Rattle.es_early.proofs.declarations.first_lexical.Goals as goal

pub loop-node-preserved : goal.loop-node-preserved
loop-node-preserved c = λ scope name.
    let test = declares_lexically c.args.tree.now scope name in
    c.in_ok-note_lexical.ensures scope name
    ∙ ap (noted (test c.loop-node.node) c.loop-node.node) (c.loop-node.invariant scope name)
    ∙ sym (first_of-more test c.loop-node.node)
