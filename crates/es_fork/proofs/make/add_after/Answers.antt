use Rattle.std.proofs.Common.{◌+◌, ◌∙◌, ap, sym, length}
use Rattle.std.specs.List.{range_with_len}
use Rattle.std.proofs.lemmas.List.FromFn.{length-range_with_len}
use Rattle.es_fork.proofs.NewLemmas.{after_made}
use Rattle.es_fork.proofs.make.add_after.Goals as goal

pub pairs-requires : goal.pairs-requires
pairs-requires c = sym (ap length (c.deref-2.ensures.value ∙ c.in_ok-ids.ensures.ids) ∙ length-range_with_len _ _)

pub make-requires-clause-leads : goal.make-requires-clause-leads
make-requires-clause-leads c =
    after_made _ _ _ _ _ _ _ c.requires.within c.deref.ensures.value (c.deref-3.ensures.value ∙ c.in_ok-flags.ensures) (c.in_ok-ids.ensures.ids ∙ ap (λ n. range_with_len (n + 1) (length c.args.heads.now)) (c.len.ensures ∙ sym c.deref.ensures.len ∙ ap length c.deref.ensures.value)) c.deref-2.ensures.value (c.deref-4.ensures.value ∙ c.in_ok-edges.ensures)
