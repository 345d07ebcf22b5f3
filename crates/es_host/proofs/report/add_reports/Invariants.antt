use Rattle.std.proofs.Common.{◌≡◌, ◌++◌, map}
use Rattle.std.specs.Str.{chars}
use Rattle.es_host.specs.Reports.{report_of}
use Rattle.es_host.proofs.report.add_reports.Given as goal

abbrev pub invariant-loop-finding : goal.invariant-loop-finding
invariant-loop-finding l = l.reports.items ≡ l.initial.reports.items ++ map (report_of (chars l.id) l.place l.severity) l.yielded
