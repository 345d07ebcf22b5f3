use Rattle.std.proofs.Common.{◌≡◌, take}
use Rattle.std.specs.Prelude.{false}
use Rattle.std.specs.List.{list_any}
use Rattle.es_early.specs.Notes.{is_noted_before, noted_at}
use Rattle.es_early.proofs.declarations.is_noted_in.Given as goal

abbrev pub invariant-loop-scope : goal.invariant-loop-scope
invariant-loop-scope l = list_any (λ scope. is_noted_before (noted_at l.notes scope l.name) l.node) (take l.scope-index l.scopes) ≡ false
