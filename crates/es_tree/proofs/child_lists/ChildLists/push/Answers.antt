use Rattle.std.proofs.Common.{◌∙◌, ◌++◌, ◌∷◌, [], List, ℕ, length, ap}
use Rattle.std.specs.Prelude.{Option}
use Rattle.std.proofs.lemmas.Result.{err_from_is_err_and}
use Rattle.es_tree.proofs.PartsLemmas.{parts_of-append, parts_of-push}
use Rattle.es_tree.proofs.child_lists.ChildLists.push.Goals as goal

pub returns-in_err-push-clause-err : goal.returns-in_err-push-clause-err
returns-in_err-push-clause-err c =
    let answer = err_from_is_err_and c.from_residual-in_err-push.result c.from_residual-in_err-push.ensures.1 in
    rw (answer.1, c.in_err-push.ensures.items, c.in_ok-part.ensures.items)
    (parts_of-append c.self.inside.places.items c.args.list.items c.self.inside.lists.items c.self.invariant ∙ c.self.view_is)

pub returns-clause-ok : goal.returns-clause-ok
returns-clause-ok c =
    rw (c.in_ok-push.ensures.items, c.in_ok-part.ensures.items)
    (parts_of-push c.self.inside.places.items c.args.list.items c.self.inside.lists.items c.in_ok-part.part c.self.invariant
    c.in_ok-part.ensures.start (c.in_ok-part.ensures.end ∙ ap length c.in_ok-part.ensures.items)
    ∙ ap (λ (lists : List (List (Option ℕ))). lists ++ c.args.list.items ∷ []) c.self.view_is)
