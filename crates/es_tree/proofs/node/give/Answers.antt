use Rattle.std.proofs.Common.{◌≡◌, Some, None}
use Rattle.std.specs.Prelude.{position}
use Rattle.es_tree.proofs.AttributesLemmas.{has_field, set-found, push-missing}
use Rattle.es_tree.proofs.node.give.Goals as goal

pub returns-in-Some-clause-ok : goal.returns-in-Some-clause-ok
returns-in-Some-clause-ok c =
    let found : position (has_field c.args.new) c.args.attributes.now.items ≡ Some c.in-Some.index = rw (← c.deref.ensures.value, ← c.index_of.ensures) c.in-Some.is in
    set-found c.args.new c.args.attributes.now.items c.in-Some.index found

pub returns-in_ok-push-in-None-clause-ok : goal.returns-in_ok-push-in-None-clause-ok
returns-in_ok-push-in-None-clause-ok c =
    let missing : position (has_field c.args.new) c.args.attributes.now.items ≡ None = rw (← c.deref.ensures.value, ← c.index_of.ensures) c.in-None.is in
    rw (c.in_ok-push-in-None.ensures.items, c.in_ok-try_reserve_exact-in-None.ensures.items) (push-missing c.args.new c.args.attributes.now.items missing)
