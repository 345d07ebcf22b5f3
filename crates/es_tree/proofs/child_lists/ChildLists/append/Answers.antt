use Rattle.es_tree.proofs.child_lists.ChildLists.append.Goals as goal

pub returns-in_err-push-clause-kept : goal.returns-in_err-push-clause-kept
returns-in_err-push-clause-kept c = rw c.in_err-push.ensures.err c.loop-list.invariant.kept
