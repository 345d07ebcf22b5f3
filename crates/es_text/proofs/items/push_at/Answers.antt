use Rattle.std.proofs.Common.{rules, arith}
use Rattle.es_text.proofs.ListLemmas.{set-pushed}
use Rattle.es_text.proofs.items.push_at.Goals as goal

pub returns-clause-ok : goal.returns-clause-ok
returns-clause-ok g c =
    grind (arith, rules, c.push.ensures.ok, c.index_mut-list.ensures.value, set-pushed c.args.lists.now c.args.at c.index_mut-list.result.now c.args.item c.requires)
