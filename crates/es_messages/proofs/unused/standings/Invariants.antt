use Rattle.std.proofs.Common.{◌≡◌, take, map}
use Rattle.std.specs.List.{All}
use Rattle.es_messages.specs.Standings.{Stands, report_of}
use Rattle.es_messages.proofs.unused.standings.Given as goal

abbrev pub invariant-loop-report : goal.invariant-loop-report
invariant-loop-report l = record {
  reports : map report_of l.standings.items ≡ take l.report-index l.reports;
  all : All (Stands l.source.characters l.marks) l.standings.items;
}
