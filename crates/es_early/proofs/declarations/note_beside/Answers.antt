use Rattle.std.proofs.Common.{◌∙◌, ap, sym}
use Rattle.std.specs.Option.{is_some}
use Rattle.es_early.specs.Notes.{noted, noted_at}
use Rattle.es_early.proofs.DeclarationsLemmas.{key-known}
use Rattle.es_early.proofs.declarations.note_beside.Goals as goal

pub returns-in_ok-note : goal.returns-in_ok-note
returns-in_ok-note c = λ other given.
    c.in_ok-note.ensures (other, record { ref_ptr = (0, 0); now = given })
    ∙ ap (λ passes. noted passes c.args.node (noted_at c.args.notes.now other given))
    (key-known (λ scope name. is_some (noted_at c.args.lexical.now scope name)) c.args.scope other c.args.name.now given
    (sym c.was_noted.ensures ∙ c.if-was_noted.true))
