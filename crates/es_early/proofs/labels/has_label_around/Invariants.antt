use Rattle.std.proofs.Common.{◌≡◌}
use Rattle.std.specs.List.{list_any}
use Rattle.es_tree.specs.Around.{before, is_one_of, left}
use Rattle.es_tree.specs.Kinds.{functions_and_static_blocks}
use Rattle.es_early.specs.Labels.{around_in_function, is_labelled}
use Rattle.es_early.proofs.labels.has_label_around.Given as goal

abbrev pub invariant-loop-around : goal.invariant-loop-around
invariant-loop-around l = record {
  can : (goal.iterator-loop-around).can_next l.around-iterator;
  ends : (goal.iterator-loop-around).is_finite l.around-iterator;
  found : list_any (is_labelled l.tree l.label) (before (is_one_of functions_and_static_blocks l.tree) (left l.around-iterator))
      ≡ list_any (is_labelled l.tree l.label) (around_in_function l.tree l.node);
}
