use Rattle.std.proofs.Common.{◌≡◌}
use Rattle.std.specs.Prelude.{find}
use Rattle.es_scopes.specs.Chains.{home, is_home}
use Rattle.es_scopes.specs.Left.{left}
use Rattle.es_scopes.proofs.chain.home.Given as goal

abbrev pub invariant-loop-around : goal.invariant-loop-around
invariant-loop-around l = record {
  can : (goal.iterator-loop-around).can_next l.around-iterator;
  ends : (goal.iterator-loop-around).is_finite l.around-iterator;
  found : find (is_home l.scopes) (left l.around-iterator) ≡ home l.scopes l.scope;
}
