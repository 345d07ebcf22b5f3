use Rattle.std.proofs.Common.{All, IsNone}
use Rattle.es_parser.proofs.reader.no_outcomes.Given as goal

abbrev pub invariant-loop : goal.invariant-loop
invariant-loop l = All (λ kept. IsNone kept) l.table.items
