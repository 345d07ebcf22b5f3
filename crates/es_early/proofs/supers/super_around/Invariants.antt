use Rattle.std.proofs.Common.{◌≡◌}
use Rattle.std.specs.Prelude.{find}
use Rattle.es_tree.specs.Around.{left}
use Rattle.es_early.specs.Supers.{binds_super, super_around}
use Rattle.es_early.proofs.supers.super_around.Given as goal

abbrev pub invariant-loop-around : goal.invariant-loop-around
invariant-loop-around l = record {
  can : (goal.iterator-loop-around).can_next l.around-iterator;
  ends : (goal.iterator-loop-around).is_finite l.around-iterator;
  found : find (binds_super l.tree) (left l.around-iterator) ≡ super_around l.tree l.node;
}
