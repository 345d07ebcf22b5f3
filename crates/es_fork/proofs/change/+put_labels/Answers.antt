use Rattle.std.proofs.Common.{rules, ◌∙◌, ap, sym, subst, length}
use Rattle.es_fork.specs.Graphs.{IsOf}
use Rattle.es_fork.proofs.ChangesLemmas.{length-labelled_at}
use Rattle.es_fork.proofs.GraphsLemmas.{Has-first, Has-rest, IsOf-length}
use Rattle.es_fork.proofs.change.+put_labels.Goals as goal

pub put_label-requires : goal.put_label-requires
put_label-requires t c =
    subst (IsOf c.args.segments.now.items) (sym c.head-item.is) (c.requires _ (Has-first c.args.heads.now c.head-item.result c.in-len1-up.len_at_least))

pub put_labels-requires : goal.put_labels-requires
put_labels-requires t c =
    let longer = ap length c.in_ok-put_label-in-len1-up.ensures.ok ∙ length-labelled_at _ _ _ in
    (search rules, λ id held. IsOf-length _ _ id longer (c.requires id (Has-rest c.args.heads.now id c.in-len1-up.len_at_least held)))

pub take_label-requires : goal.take_label-requires
take_label-requires t c =
    let longer = ap length c.in-Err.ensures.err ∙ ap length c.in_ok-put_label-in-len1-up.ensures.ok ∙ length-labelled_at _ _ _ in
    subst (IsOf c.put_labels.new.segments.items) (sym c.head-item.is) (IsOf-length _ _ _ longer (c.requires _ (Has-first c.args.heads.now c.head-item.result c.in-len1-up.len_at_least)))
