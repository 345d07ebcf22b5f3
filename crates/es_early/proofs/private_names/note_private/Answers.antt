use Rattle.std.proofs.Common.{◌≡◌, ◌∙◌, ap, sym, true, Some, rules}
use Rattle.es_tree.specs.Around.{name_of, parent, stands_as}
use Rattle.es_tree.specs.Kinds.{members}
use Rattle.es_early.specs.Notes.{noted, noted_at}
use Rattle.es_early.specs.PrivateNames.{is_private_name, parent_of_some}
use Rattle.es_tree.specs.declared.field.TheConstants.{KEY}
use Rattle.es_early.proofs.PrivateNamesLemmas.{key-passes}
use Rattle.es_early.proofs.private_names.note_private.Goals as goal

pub returns-in_ok-note : goal.returns-in_ok-note
returns-in_ok-note c = λ body name.
    let rows = c.args.tree.now in
    let node = c.args.node in
    let private : is_private_name rows node ≡ true = search rules in
    let member : stands_as members KEY rows node ≡ true = search rules in
    let above : parent_of_some rows (parent rows node) ≡ Some c.in-Some.body = search rules in
    c.in_ok-note.ensures (body, record { ref_ptr = (0, 0); now = name })
    ∙ ap (λ passes. noted passes node (noted_at c.args.notes.now body name))
    (key-passes (is_private_name rows node) (stands_as members KEY rows node) (parent_of_some rows (parent rows node)) (name_of rows node)
    c.in-Some.body body c.in-Some-words.name.now name private member above (sym c.in-Some-words.ensures))
