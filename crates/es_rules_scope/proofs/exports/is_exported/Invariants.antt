use Rattle.std.proofs.Common.{◌≡◌, ◌∷◌, []}
use Rattle.std.specs.Prelude.{find}
use Rattle.es_tree.specs.declared.kind.TheConstants.{CLASS_DECLARATION, FUNCTION_DECLARATION, VARIABLE_DECLARATION}
use Rattle.es_tree.specs.Around.{ancestors, is_one_of, left}
use Rattle.es_rules_scope.proofs.exports.is_exported.Given as goal

abbrev pub invariant-loop-around : goal.invariant-loop-around
invariant-loop-around l = record {
  can : (goal.iterator-loop-around).can_next l.around-iterator;
  ends : (goal.iterator-loop-around).is_finite l.around-iterator;
  found : find (is_one_of (VARIABLE_DECLARATION ∷ FUNCTION_DECLARATION ∷ CLASS_DECLARATION ∷ []) l.tree) (left l.around-iterator)
      ≡ find (is_one_of (VARIABLE_DECLARATION ∷ FUNCTION_DECLARATION ∷ CLASS_DECLARATION ∷ []) l.tree) (ancestors l.tree l.node);
}
