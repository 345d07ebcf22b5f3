use Rattle.std.proofs.Common.{◌≡◌, ◌+◌, ◌-◌, ◌∙◌, ap, sym, arith, ◌++◌, [], ◌∷◌}
use Rattle.std.specs.List.{range_with_len}
use Rattle.es_fork.proofs.ListsLemmas.{range_more}
use Rattle.es_fork.proofs.lists.new_ids.Goals as goal

pub loop-before-preserved : goal.loop-before-preserved
loop-before-preserved c =
    let n : c.loop-before.before + 1 - c.args.last ≡ c.loop-before.before - c.args.last + 1 = omega arith in
    let m : c.args.last + 1 + (c.loop-before.before - c.args.last) ≡ c.loop-before.before + 1 = omega arith in
    c.in_ok-push.ensures.items ∙ (λ k. c.loop-before.invariant k ++ sym m k ∷ []) ∙ sym (ap (range_with_len (c.args.last + 1)) n ∙ range_more _ _)
