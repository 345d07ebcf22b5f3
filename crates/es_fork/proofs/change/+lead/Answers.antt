use Rattle.std.proofs.Common.{rules, ◌∙◌, ap, sym, length, get_or}
use Rattle.es_fork.specs.Changes.{has_edge}
use Rattle.std.proofs.lemmas.Result.{on_ok_weaker}
use Rattle.es_fork.proofs.ChangesLemmas.{length-edge_put, edged_there, edged_missing, connected_first}
use Rattle.es_fork.proofs.GraphsLemmas.{Has-first, Has-rest, IsOf-length}
use Rattle.es_fork.proofs.change.+lead.Goals as goal

pub is_next-requires : goal.is_next-requires
is_next-requires t c =
    IsOf-length _ _ _ (ap length c.deref.ensures.value) (c.requires _ (Has-first c.args.edges.now c.index-edges-0.result c.in-len1-up.len_at_least))

pub lead-requires : goal.lead-requires
lead-requires t c = (search rules, λ edge held. c.requires edge (Has-rest c.args.edges.now edge c.in-len1-up.len_at_least held))

pub put_edge-requires : goal.put_edge-requires
put_edge-requires t c = c.requires _ (Has-first c.args.edges.now c.index-edges-0.result c.in-len1-up.len_at_least)

pub lead-requires-else-is_next : goal.lead-requires-else-is_next
lead-requires-else-is_next t c =
    let longer = ap length c.in_ok-put_edge-in-len1-up.ensures.ok ∙ length-edge_put _ _ _ in
    (search rules, λ edge held. IsOf-length _ _ _ longer (c.requires edge (Has-rest c.args.edges.now edge c.in-len1-up.len_at_least held)))

pub take_edge-requires : goal.take_edge-requires
take_edge-requires t c =
    let longer = ap length c.in-Err.ensures.err ∙ ap length c.in_ok-put_edge-in-len1-up.ensures.ok ∙ length-edge_put _ _ _ in
    IsOf-length _ _ _ longer (c.requires _ (Has-first c.args.edges.now c.index-edges-0.result c.in-len1-up.len_at_least))

pub returns-then-is_next-clause-ok : goal.returns-then-is_next-clause-ok
returns-then-is_next-clause-ok t c =
    let there = ap (λ g. has_edge g (get_or c.args.edges.now 0 c.index-edges-0.result).0 (get_or c.args.edges.now 0 c.index-edges-0-2.result).1) (sym c.deref.ensures.value) ∙ sym c.is_next.ensures ∙ c.if-is_next.true in
    on_ok_weaker c.lead.result (λ e. e ∙ connected_first _ _ c.args.edges.now c.index-edges-0.result c.index-edges-0-2.result c.in-len1-up.len_at_least (sym (edged_there _ _ _ there))) c.lead.ensures.ok

pub returns-in_default-clause-ok : goal.returns-in_default-clause-ok
returns-in_default-clause-ok t c =
    let missing = ap (λ g. has_edge g (get_or c.args.edges.now 0 c.index-edges-0.result).0 (get_or c.args.edges.now 0 c.index-edges-0-2.result).1) (sym c.deref.ensures.value) ∙ sym c.is_next.ensures ∙ c.if-is_next.false in
    c.in_default.ensures.ok ∙ connected_first _ _ c.args.edges.now c.index-edges-0.result c.index-edges-0-2.result c.in-len1-up.len_at_least (c.in_ok-put_edge-in-len1-up.ensures.ok ∙ sym (edged_missing _ _ _ missing))
