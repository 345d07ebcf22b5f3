use Rattle.std.proofs.Common.{rules, ◌<◌, ◌∷◌, length, ◌∙◌, sym, ap, subst}
use Rattle.es_skeleton.specs.Pendings.{others}
use Rattle.es_skeleton.proofs.AwaitedLemmas.{Counted, counted_more, first_waits}
use Rattle.es_skeleton.proofs.Making.{copy_smaller}
use Rattle.es_skeleton.proofs.build.count_completions.Goals as goal

pub counts-smaller : goal.counts-smaller
counts-smaller c =
    let lt : 0 < length c.counts.rest.items = search rules in
    subst (λ l. length l < length c.counts.rest.items) (sym (c.in_ok-rest.ensures ∙ ap (others c.index.result.now.completion) c.deref.ensures.value))
    (copy_smaller c.counts.rest.items c.index.result.now c.index.result.now.completion lt (ap (λ p. p.completion) c.index.ensures))

pub counts-preserved : goal.counts-preserved
counts-preserved c =
    let lt : 0 < length c.counts.rest.items = search rules in
    let k = c.counts.invariant.counted in
    let n = k.2 in
    let first = c.index.result.now.completion in
    let w = first_waits c.counts.rest.items c.index.result.now first lt (ap (λ p. p.completion) c.index.ensures) in
    record {
      counted = (
        first ∷ k.0,
        subst (λ l. Counted (first ∷ k.0) l c.args.all.now) (sym (c.in_ok-rest.ensures ∙ ap (others first) c.deref.ensures.value)) (counted_more first w.0 w.1 k.1),
        search (rules, n),
      );
    }
