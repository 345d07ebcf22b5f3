use Rattle.std.proofs.Common.{◌≡◌}
use Rattle.std.specs.Prelude.{[], ◌∷◌, not}
use Rattle.std.specs.List.{list_any}
use Rattle.es_tree.specs.declared.kind.TheConstants.{LABELED_STATEMENT}
use Rattle.es_tree.specs.Around.{before, is_one_of, left}
use Rattle.es_early.specs.Labels.{is_labelled, label_set}
use Rattle.es_early.proofs.labels.is_in_label_set.Given as goal

abbrev pub invariant-loop-around : goal.invariant-loop-around
invariant-loop-around l = record {
  can : (goal.iterator-loop-around).can_next l.around-iterator;
  ends : (goal.iterator-loop-around).is_finite l.around-iterator;
  found : list_any (is_labelled l.tree l.label) (before (λ around. not (is_one_of (LABELED_STATEMENT ∷ []) l.tree around)) (left l.around-iterator))
      ≡ list_any (is_labelled l.tree l.label) (label_set l.tree l.statement);
}
