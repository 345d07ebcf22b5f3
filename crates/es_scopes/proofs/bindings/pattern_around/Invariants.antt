use Rattle.std.proofs.Common.{◌≡◌}
use Rattle.std.specs.Prelude.{find, not}
use Rattle.es_tree.specs.Around.{left}
use Rattle.es_scopes.specs.Bindings.{is_pattern_part, pattern_around}
use Rattle.es_scopes.proofs.bindings.pattern_around.Given as goal

abbrev pub invariant-loop-around : goal.invariant-loop-around
invariant-loop-around l = record {
  can : (goal.iterator-loop-around).can_next l.around-iterator;
  ends : (goal.iterator-loop-around).is_finite l.around-iterator;
  found : find (λ around. not (is_pattern_part l.tree around)) (left l.around-iterator) ≡ pattern_around l.tree l.node;
}
