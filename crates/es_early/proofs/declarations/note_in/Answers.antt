use Rattle.std.proofs.Common.{◌∙◌, ◌<◌, ap, sym, take, length, slice_index, arith}
use Rattle.std.specs.Prelude.{◌&&◌, ◌==◌}
use Rattle.std.specs.List.{list_any}
use Rattle.std.specs.Option.{is_some}
use Rattle.std.specs.Str.{bytes_eq}
use Rattle.es_early.specs.Notes.{noted, noted_at}
use Rattle.es_early.proofs.DeclarationsLemmas.{any-more, noted-twice}
use Rattle.es_early.proofs.declarations.note_in.Goals as goal

pub loop-scope-preserved : goal.loop-scope-preserved
loop-scope-preserved c = λ scope given.
    let lexical = is_some (noted_at c.args.lexical.now scope given) in
    let same = bytes_eq c.args.name.now given in
    let item = slice_index c.args.scopes.now c.loop-scope.scope-index in
    let old = noted_at c.args.notes.now scope given in
    let within : c.loop-scope.scope-index < length c.args.scopes.now = omega arith in
    c.in_ok-note_beside.ensures scope given
    ∙ ap (noted (lexical && ((item == scope) && same)) c.args.node) (c.loop-scope.invariant scope given)
    ∙ noted-twice lexical (list_any (λ s. s == scope) (take c.loop-scope.scope-index c.args.scopes.now)) (item == scope) same c.args.node old
    ∙ ap (λ any. noted (lexical && (any && same)) c.args.node old) (sym (any-more (λ s. s == scope) c.args.scopes.now c.loop-scope.scope-index within))
