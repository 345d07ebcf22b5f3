use Rattle.std.proofs.Common.{◌+◌, ◌∙◌, ap, sym, length}
use Rattle.std.specs.List.{range_with_len}
use Rattle.std.proofs.lemmas.List.FromFn.{length-range_with_len}
use Rattle.es_fork.proofs.NewLemmas.{joined_made}
use Rattle.es_fork.proofs.make.add_joined.Goals as goal

pub joined_edges-requires : goal.joined_edges-requires
joined_edges-requires c = λ part held.
    c.requires.alike part held ∙ sym c.width-width.ensures ∙ sym (ap length (c.deref-2.ensures.value ∙ c.in_ok-ids.ensures.ids) ∙ length-range_with_len _ _)

pub make-requires-clause-leads : goal.make-requires-clause-leads
make-requires-clause-leads c =
    joined_made _ _ c.args.parts.now _ _ _ _ _ c.requires.within c.requires.alike c.width-width.ensures c.deref.ensures.value (c.deref-3.ensures.value ∙ c.in_ok-flags.ensures) (c.in_ok-ids.ensures.ids ∙ ap (λ n. range_with_len (n + 1) c.width-width.result) (c.len.ensures ∙ sym c.deref.ensures.len ∙ ap length c.deref.ensures.value)) c.deref-2.ensures.value
    (c.deref-4.ensures.value ∙ c.in_ok-edges.ensures)
