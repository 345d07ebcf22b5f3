use Rattle.std.proofs.Common.{◌≡◌}
use Rattle.std.specs.List.{list_any}
use Rattle.es_tree.specs.Around.{before, is_one_of, left}
use Rattle.es_early.specs.Jumps.{continues_at}
use Rattle.es_tree.specs.Kinds.{functions_and_static_blocks}
use Rattle.es_early.specs.Labels.{around_in_function}
use Rattle.es_early.proofs.jumps.has_continue_target.Given as goal

abbrev pub invariant-loop-outer : goal.invariant-loop-outer
invariant-loop-outer l = record {
  can : (goal.iterator-loop-outer).can_next l.outer-iterator;
  ends : (goal.iterator-loop-outer).is_finite l.outer-iterator;
  found : list_any (continues_at l.tree l.label) (before (is_one_of functions_and_static_blocks l.tree) (left l.outer-iterator))
      ≡ list_any (continues_at l.tree l.label) (around_in_function l.tree l.node);
}
