use Rattle.std.proofs.Common.{leb, rules}
use Rattle.std.proofs.lemmas.List.Sorted.{IsPartitionPoint-from_clause, IsPartitionedBy-leb}
use Rattle.es_text.proofs.FoundLineLemmas.{IsLineAt-from_point}
use Rattle.es_text.proofs.source.line_at.Goals as goal

pub overflow_sub-result : goal.overflow_sub-result
overflow_sub-result c =
    let parted = IsPartitionedBy-leb (λ y. y) c.args.starts.now c.args.at c.requires.rise in
    let point = IsPartitionPoint-from_clause (λ y. leb y c.args.at) _ _ c.partition_point.ensures.partitioned parted (λ a r q k. search rules) in
    (IsLineAt-from_point c.args.starts.now c.args.at c.partition_point.result c.requires.some c.requires.first point c.partition_point.ensures.bound).0

pub returns : goal.returns
returns c =
    let parted = IsPartitionedBy-leb (λ y. y) c.args.starts.now c.args.at c.requires.rise in
    let point = IsPartitionPoint-from_clause (λ y. leb y c.args.at) _ _ c.partition_point.ensures.partitioned parted (λ a r q k. search rules) in
    (IsLineAt-from_point c.args.starts.now c.args.at c.partition_point.result c.requires.some c.requires.first point c.partition_point.ensures.bound).1
