use Rattle.std.proofs.Common.{◌∙◌, sym, subst, [], ◌∷◌, IsTrue}
use Rattle.std.specs.List.{zip}
use Rattle.es_fork.specs.Forks.{IsFork, LeadsOn}
use Rattle.es_fork.specs.Changes.{connected}
use Rattle.es_skeleton.proofs.StepsLemmas.{has_index}
use Rattle.es_skeleton.proofs.ForkLemmas.{fork_is, of_length, leads_fork, looped_step, looped_count, looped_reach}
use Rattle.es_skeleton.proofs.step.loop_back.Goals as goal

pub loop_to-requires-clause-from : goal.loop_to-requires-clause-from
loop_to-requires-clause-from c =
    let of = of_length _ _ _ c.loop-head.invariant.count (c.requires.within _ (has_index _ _ _ c.loop-head-test.true c.head-item.is)) in
    subst (λ f. IsFork c.loop-head.graph.segments f.heads) (sym c.in_ok-from.ensures) (fork_is _ _ of)

pub loop_to-requires-clause-leads : goal.loop_to-requires-clause-leads
loop_to-requires-clause-leads c =
    let held = has_index _ _ _ c.loop-head-test.true c.head-item.is in
    subst (λ f. LeadsOn c.loop-head.graph.segments f.heads c.in_ok-target.target.heads) (sym c.in_ok-from.ensures)
    (subst (λ f. LeadsOn c.loop-head.graph.segments (c.head-item.result ∷ []) f.heads) (sym c.in_ok-target.ensures)
    (leads_fork c.loop-head.graph.segments c.head-item.result c.args.to
    (λ r. subst (λ b. IsTrue b) (sym (c.loop-head.invariant.reachable c.args.to)) (c.requires.leads c.head-item.result held (subst (λ b. IsTrue b) (c.loop-head.invariant.reachable c.head-item.result) r)))))

pub loop-head-preserved : goal.loop-head-preserved
loop-head-preserved c =
    let of = of_length _ _ _ c.loop-head.invariant.count (c.requires.within _ (has_index _ _ _ c.loop-head-test.true c.head-item.is)) in
    let made = c.in_ok-loop_to.ensures.ok ∙ (λ k. record c.loop-head.graph { segments = connected c.loop-head.graph.segments (zip (c.in_ok-from.ensures k).heads (c.in_ok-target.ensures k).heads) }) in
    record {
      whole = looped_step c.args.graph.now c.loop-head.graph c.loop_to.new.self c.args.heads.now c.loop-head.head-index c.head-item.result c.args.to c.loop-head-test.true c.head-item.is made c.loop-head.invariant.whole;
      count = looped_count c.loop-head.graph c.loop_to.new.self c.head-item.result c.args.to of made ∙ c.loop-head.invariant.count;
      reachable = λ x. looped_reach c.loop-head.graph c.loop_to.new.self c.head-item.result c.args.to of made x ∙ c.loop-head.invariant.reachable x;
    }
