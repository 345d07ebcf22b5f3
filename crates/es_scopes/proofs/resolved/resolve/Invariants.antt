use Rattle.std.proofs.Common.{◌≡◌}
use Rattle.es_scopes.specs.Chains.{outward}
use Rattle.es_scopes.specs.Gathering.{finds}
use Rattle.es_scopes.specs.Left.{left}
use Rattle.es_scopes.specs.Places.{first_some}
use Rattle.es_scopes.proofs.resolved.resolve.Given as goal

abbrev pub invariant-loop-around : goal.invariant-loop-around
invariant-loop-around l = record {
  can : (goal.iterator-loop-around).can_next l.around-iterator;
  ends : (goal.iterator-loop-around).is_finite l.around-iterator;
  found : first_some (finds l.tables l.name) (left l.around-iterator) ≡ first_some (finds l.tables l.name) (outward l.scopes l.scope);
}
