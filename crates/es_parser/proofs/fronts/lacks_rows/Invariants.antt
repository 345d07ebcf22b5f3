use Rattle.std.proofs.Common.{◌≡◌, drop, map}
use Rattle.std.specs.List.{list_all}
use Rattle.es_grammar.specs.Rules.{row}
use Rattle.es_parser.specs.Fronts.{lacks_row}
use Rattle.es_parser.proofs.fronts.lacks_rows.Given as goal

abbrev pub invariant-loop-each : goal.invariant-loop-each
invariant-loop-each l = record {
  rest : list_all (lacks_row l.set) (map row l.rows) ≡ list_all (lacks_row l.set) (map row (drop l.each-index l.rows));
}
