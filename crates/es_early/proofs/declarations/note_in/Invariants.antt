use Rattle.std.proofs.Common.{◌≡◌, ℕ, List, take}
use Rattle.std.specs.Prelude.{◌&&◌, ◌==◌}
use Rattle.std.specs.List.{list_any}
use Rattle.std.specs.Option.{is_some}
use Rattle.std.specs.Str.{bytes_eq}
use Rattle.es_early.specs.Notes.{noted, noted_at}
use Rattle.es_early.proofs.declarations.note_in.Given as goal

abbrev pub invariant-loop-scope : goal.invariant-loop-scope
invariant-loop-scope l = (scope : ℕ) (given : List ℕ) → noted_at l.notes scope given
    ≡ noted (is_some (noted_at l.lexical scope given) && (list_any (λ s. s == scope) (take l.scope-index l.scopes) && bytes_eq l.name given))
    l.node (noted_at l.fn.notes scope given)
