use Rattle.std.proofs.Common.{◌∙◌, ap, sym, subst, length, List}
use Rattle.es_fork.specs.declared.segment.Segment.{Segment}
use Rattle.es_fork.specs.Forks.{AreForks, AreAlike}
use Rattle.es_fork.specs.Changes.{joined}
use Rattle.es_skeleton.proofs.ForkLemmas.{forks_are, forks_alike, one_made, joined_forks}
use Rattle.es_skeleton.proofs.step.join_of.Goals as goal

pub join-requires-clause-forks : goal.join-requires-clause-forks
join-requires-clause-forks c =
    subst (AreForks c.args.graph.now.segments) (sym (c.deref.ensures.value ∙ c.in_ok-parts.ensures)) (forks_are c.args.graph.now.segments c.args.heads.now c.requires.some c.requires.within)

pub join-requires-clause-alike : goal.join-requires-clause-alike
join-requires-clause-alike c = subst AreAlike (sym (c.deref.ensures.value ∙ c.in_ok-parts.ensures)) (forks_alike c.args.heads.now c.requires.some)

pub only_head-requires : goal.only_head-requires
only_head-requires c =
    ap length (one_made c.args.graph.now.segments c.deref.result.now c.args.heads.now c.in_ok-made.made.heads (c.deref.ensures.value ∙ c.in_ok-parts.ensures) c.requires.some c.in_ok-made.ensures.fork)

pub returns-clause-ok : goal.returns-clause-ok
returns-clause-ok c =
    c.in_ok-made.ensures.ok
    ∙ ap {A = List Segment} (λ s. record c.args.graph.now { segments = s })
    (ap (joined c.args.graph.now.segments) (c.deref.ensures.value ∙ c.in_ok-parts.ensures) ∙ joined_forks c.args.graph.now.segments c.args.heads.now c.requires.some)
