use Rattle.std.proofs.Common.{[], ◌∷◌, length-append, inl, inr, arith, sym, subst}
use Rattle.es_fork.specs.Forks.{IsFork, AreForks}
use Rattle.es_fork.proofs.GraphsLemmas.{Has-push}
use Rattle.es_fork.proofs.tests.many.Goals as goal

pub loop-preserved : goal.loop-preserved
loop-preserved g c =
    let segments = c.args.graph.now.segments in
    let n = length-append c.loop.parts.items (c.in_ok-one-2.field-0 ∷ []) in
    subst (AreForks segments) (sym c.in_ok-push-2.ensures.items)
    (record {
      some = omega arith;
      forks = λ part m. elim (Has-push c.loop.parts.items c.in_ok-one-2.field-0 part m) [
        | inl a ↦ c.loop.invariant.forks part a
        | inr e ↦ subst (λ p. IsFork segments p.heads) (sym e) c.in_ok-one-2.ensures.fork
      ];
    })
