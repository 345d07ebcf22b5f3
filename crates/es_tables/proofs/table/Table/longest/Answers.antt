use Rattle.std.proofs.Common.{rules, subst, sym}
use Rattle.std.specs.Option.{option_copied}
use Rattle.std.proofs.lemmas.List.Sorted.{IsPartitionPoint-from_clause}
use Rattle.es_tables.proofs.SearchesLemmas.{Outcome, is_not_after, are_parted, search_outcome, answer_stands, answer_is_longest, none_is_prefix, le_tested}
use Rattle.es_tables.proofs.table.Table.longest.Given.{Over}
use Rattle.es_tables.proofs.table.Table.longest.Goals as goal

outcome : (g : Over) (c : goal.After-last_prefix g) → Outcome c.args.bytes.now c.args.self.now.rows.now (option_copied c.last_prefix.result)
outcome g c =
    let bytes = c.args.bytes.now in
    let rows = c.args.self.now.rows.now in
    let parted = IsPartitionPoint-from_clause (is_not_after bytes) rows _ c.partition_point-end.ensures.partitioned
    (are_parted bytes rows c.requires) (λ a r f called. search (rules, le_tested)) in
    subst (Outcome bytes rows) (sym c.last_prefix.ensures) (search_outcome bytes rows c.requires _ parted)

pub returns-clause-row : goal.returns-clause-row
returns-clause-row g c = answer_stands _ _ _ (outcome g c)

pub returns-clause-longest : goal.returns-clause-longest
returns-clause-longest g c = answer_is_longest _ _ _ (outcome g c)

pub returns-clause-missing : goal.returns-clause-missing
returns-clause-missing g c = none_is_prefix _ _ _ (outcome g c)
