use Rattle.std.proofs.Common.{rules, of_calls}
use Rattle.std.specs.Prelude.{nat_lt}
use Rattle.std.proofs.lemmas.Fn.{always_returns_same}
use Rattle.std.proofs.lemmas.List.Sorted.{IsPartitionedBy-ltb}
use Rattle.es_host.proofs.TokensLemmas.{front-before, rest-from}
use Rattle.es_host.proofs.tokens.count_before.Goals as goal

pub returns-clause-before : goal.returns-clause-before
returns-clause-before g c =
    front-before (λ item. (g.T.Spanned.place item).start) c.args.offset c.args.items.now c.partition_point.result c.partition_point.ensures.bound
    (c.partition_point.ensures.partitioned (λ item. nat_lt (g.T.Spanned.place item).start c.args.offset) (always_returns_same _ _ _ (λ a r f k. search (rules, of_calls)))
    (IsPartitionedBy-ltb (λ item. (g.T.Spanned.place item).start) c.args.items.now c.args.offset c.requires.order))

pub returns-clause-behind : goal.returns-clause-behind
returns-clause-behind g c =
    rest-from (λ item. (g.T.Spanned.place item).start) c.args.offset c.args.items.now c.partition_point.result c.partition_point.ensures.bound
    (c.partition_point.ensures.partitioned (λ item. nat_lt (g.T.Spanned.place item).start c.args.offset) (always_returns_same _ _ _ (λ a r f k. search (rules, of_calls)))
    (IsPartitionedBy-ltb (λ item. (g.T.Spanned.place item).start) c.args.items.now c.args.offset c.requires.order))
