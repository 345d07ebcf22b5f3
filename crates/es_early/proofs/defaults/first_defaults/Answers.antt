use Rattle.std.proofs.Common.{◌∙◌, ap, sym}
use Rattle.es_early.specs.Lookups.{is_default_of}
use Rattle.es_early.specs.Notes.{noted}
use Rattle.es_early.proofs.NotesLemmas.{first_of-more}
use Rattle.es_early.proofs.defaults.first_defaults.Goals as goal

pub loop-node-preserved : goal.loop-node-preserved
loop-node-preserved c = λ switch.
    let test = is_default_of c.args.tree.now switch in
    c.in_ok-note_default.ensures switch
    ∙ ap (noted (test c.loop-node.node) c.loop-node.node) (c.loop-node.invariant switch)
    ∙ sym (first_of-more test c.loop-node.node)
