use Rattle.std.proofs.Common.{◌∙◌, ap, sym}
use Rattle.es_early.specs.Lookups.{declares_named}
use Rattle.es_early.specs.Notes.{noted}
use Rattle.es_early.proofs.NotesLemmas.{first_of-more}
use Rattle.es_early.proofs.private_names.first_private_names.Goals as goal

pub loop-node-preserved : goal.loop-node-preserved
loop-node-preserved c = λ scope name.
    let test = declares_named c.args.tree.now scope name in
    c.in_ok-note_private.ensures scope name
    ∙ ap (noted (test c.loop-node.node) c.loop-node.node) (c.loop-node.invariant scope name)
    ∙ sym (first_of-more test c.loop-node.node)
