use Rattle.std.proofs.Common.{◌≡◌}
use Rattle.std.specs.Prelude.{find}
use Rattle.es_tree.specs.Around.{ancestors, left}
use Rattle.es_early.specs.Labels.{is_labelled}
use Rattle.es_rules_scope.proofs.no_unused_labels.named_from.Given as goal

abbrev pub invariant-loop-around : goal.invariant-loop-around
invariant-loop-around l = record {
  can : (goal.iterator-loop-around).can_next l.around-iterator;
  ends : (goal.iterator-loop-around).is_finite l.around-iterator;
  found : find (is_labelled l.tree l.label) (left l.around-iterator) ≡ find (is_labelled l.tree l.label) (ancestors l.tree l.jump);
}
