use Rattle.es_selectors.proofs.GroupLemmas.{groups_none, groups_some}
use Rattle.es_selectors.proofs.group.groups_of.Goals as goal

pub returns-in-Some : goal.returns-in-Some
returns-in-Some c =
    groups_some c.all_groups.result.now c.args.kind c.in-Some.groups.now c.all_groups.ensures
    c.in-Some.ensures.lookup.3.0 (c.in-Some.ensures.lookup.3.1 c.in-Some.groups.now)

pub returns-in-None : goal.returns-in-None
returns-in-None c = groups_none c.all_groups.result.now c.args.kind c.all_groups.ensures c.in-None.ensures.lookup.3
