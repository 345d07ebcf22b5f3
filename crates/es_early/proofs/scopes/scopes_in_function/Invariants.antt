use Rattle.std.proofs.Common.{◌≡◌, ◌++◌}
use Rattle.std.specs.Prelude.{filter}
use Rattle.es_tree.specs.Around.{left}
use Rattle.es_early.specs.Declarations.{is_scope, out_to_function, scopes_in_function}
use Rattle.es_early.proofs.scopes.scopes_in_function.Given as goal

abbrev pub invariant-loop-around : goal.invariant-loop-around
invariant-loop-around l = record {
  can : (goal.iterator-loop-around).can_next l.around-iterator;
  ends : (goal.iterator-loop-around).is_finite l.around-iterator;
  found : l.scopes.items ++ filter (is_scope l.tree) (out_to_function l.tree (left l.around-iterator)) ≡ scopes_in_function l.tree l.node;
}
