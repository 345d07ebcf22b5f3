use Rattle.std.proofs.Common.{◌≡◌, ◌++◌, ◌≤◌, drop, length, map}
use Rattle.std.specs.List.{All}
use Rattle.es_messages.specs.Standings.{Stands, report_of}
use Rattle.es_messages.specs.Suppression.{unused_in}
use Rattle.es_messages.proofs.unused.unused_reports.Given as goal

abbrev pub invariant-loop-i : goal.invariant-loop-i
invariant-loop-i l = record {
  reports : map report_of l.case.standings.now ≡ l.reports;
  stand : All (Stands l.source.characters l.marks) l.case.standings.now;
  told : l.unused.items ++ unused_in l.source.characters l.reports l.case.severity (drop l.i l.marks)
      ≡ unused_in l.source.characters l.reports l.initial.case.severity l.marks;
}
