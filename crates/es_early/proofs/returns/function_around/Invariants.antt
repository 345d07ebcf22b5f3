use Rattle.std.proofs.Common.{◌≡◌}
use Rattle.std.specs.Prelude.{find}
use Rattle.es_tree.specs.Around.{ancestors, is_one_of, left}
use Rattle.es_tree.specs.Kinds.{functions_and_static_blocks}
use Rattle.es_early.proofs.returns.function_around.Given as goal

abbrev pub invariant-loop-around : goal.invariant-loop-around
invariant-loop-around l = record {
  can : (goal.iterator-loop-around).can_next l.around-iterator;
  ends : (goal.iterator-loop-around).is_finite l.around-iterator;
  found : find (is_one_of functions_and_static_blocks l.tree) (left l.around-iterator)
      ≡ find (is_one_of functions_and_static_blocks l.tree) (ancestors l.tree l.node);
}
