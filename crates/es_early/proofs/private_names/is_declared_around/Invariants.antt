use Rattle.std.proofs.Common.{◌≡◌}
use Rattle.std.specs.Prelude.{[], ◌∷◌, ◌&&◌}
use Rattle.std.specs.List.{list_any}
use Rattle.std.specs.Option.{is_some}
use Rattle.es_tree.specs.declared.kind.TheConstants.{CLASS_BODY}
use Rattle.es_tree.specs.Around.{ancestors, is_one_of, left}
use Rattle.es_early.specs.Notes.{noted_at}
use Rattle.es_early.proofs.private_names.is_declared_around.Given as goal

abbrev pub invariant-loop-around : goal.invariant-loop-around
invariant-loop-around l = record {
  can : (goal.iterator-loop-around).can_next l.around-iterator;
  ends : (goal.iterator-loop-around).is_finite l.around-iterator;
  found : list_any (λ body. is_one_of (CLASS_BODY ∷ []) l.tree body && is_some (noted_at l.firsts body l.name)) (left l.around-iterator)
      ≡ list_any (λ body. is_one_of (CLASS_BODY ∷ []) l.tree body && is_some (noted_at l.firsts body l.name)) (ancestors l.tree l.node);
}
