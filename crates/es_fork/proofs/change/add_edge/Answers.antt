use Rattle.std.proofs.Common.{◌∙◌, ap, sym}
use Rattle.std.proofs.lemmas.Result.{on_ok_weaker}
use Rattle.es_fork.specs.Changes.{has_edge}
use Rattle.es_fork.proofs.ChangesLemmas.{edged_there, edged_missing}
use Rattle.es_fork.proofs.change.add_edge.Goals as goal

pub returns-then-is_next-clause-ok : goal.returns-then-is_next-clause-ok
returns-then-is_next-clause-ok c =
    sym (edged_there _ _ _ (ap (λ g. has_edge g c.args.from c.args.to) (sym c.deref.ensures.value) ∙ sym c.is_next.ensures ∙ c.if-is_next.true))

pub returns-clause-ok : goal.returns-clause-ok
returns-clause-ok c =
    let missing = ap (λ g. has_edge g c.args.from c.args.to) (sym c.deref.ensures.value) ∙ sym c.is_next.ensures ∙ c.if-is_next.false in
    on_ok_weaker c.put_edge.result (λ e. e ∙ sym (edged_missing _ _ _ missing)) c.put_edge.ensures.ok
