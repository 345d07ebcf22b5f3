use Rattle.std.proofs.Common.{◌≡◌}
use Rattle.std.specs.List.{list_any}
use Rattle.es_tree.specs.Around.{before, left}
use Rattle.es_rules_plain.specs.NoUnsafeFinally.{is_finalizer, leaves_finalizer, stops}
use Rattle.es_rules_plain.proofs.no_unsafe_finally.leaves_finalizer.Given as goal

abbrev pub invariant-loop-around : goal.invariant-loop-around
invariant-loop-around l = record {
  can : (goal.iterator-loop-around).can_next l.around-iterator;
  ends : (goal.iterator-loop-around).is_finite l.around-iterator;
  found : list_any (is_finalizer l.tree) (before (stops l.tree l.jump) (left l.around-iterator)) ≡ leaves_finalizer l.tree l.jump;
}
