use Rattle.std.proofs.Common.{◌≡◌, ◌∙◌, ap, sym, true, rules}
use Rattle.es_early.specs.Declarations.{is_lexical}
use Rattle.es_early.specs.Notes.{noted, noted_at}
use Rattle.es_early.proofs.DeclarationsLemmas.{key-passes, nameless-passes}
use Rattle.es_early.proofs.NotesLemmas.{noted-not}
use Rattle.es_early.proofs.declarations.note_lexical.Goals as goal

pub returns-in_ok-note : goal.returns-in_ok-note
returns-in_ok-note c = λ scope name.
    let rows = c.args.tree.now in
    let node = c.args.node in
    let lexical : is_lexical rows node ≡ true = search rules in
    c.in_ok-note.ensures (scope, record { ref_ptr = (0, 0); now = name })
    ∙ ap (λ passes. noted passes node (noted_at c.args.notes.now scope name))
    (key-passes rows node c.in-Some.scope scope c.in-Some-words.name.now name lexical (sym c.in-Some.ensures) (sym c.in-Some-words.ensures))

pub returns-in_default-words : goal.returns-in_default-words
returns-in_default-words c = λ scope name.
    let rows = c.args.tree.now in
    let node = c.args.node in
    let old = noted_at c.args.notes.now scope name in
    sym (ap (λ passes. noted passes node old) (nameless-passes rows node scope name (search rules)) ∙ noted-not node old)
