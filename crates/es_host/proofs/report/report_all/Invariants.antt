use Rattle.std.proofs.Common.{◌≡◌, true, map}
use Rattle.std.specs.List.{flat_map, range_with_len}
use Rattle.es_text.specs.Texts.{text_bytes}
use Rattle.es_host.proofs.ListsLemmas.{From}
use Rattle.es_host.specs.Files.{file_of, rows_in}
use Rattle.es_host.specs.Hearing.{HasHeard, events_of}
use Rattle.es_host.specs.Reports.{reports_at}
use Rattle.es_host.specs.Spans.{fixes_fit, reports_fit}
use Rattle.es_host.specs.Walk.{walk}
use Rattle.es_host.proofs.report.report_all.Given as goal

abbrev pub invariant-loop-place : goal.invariant-loop-place
invariant-loop-place g l =
    let file = file_of l.ctx in
    let meanings = map g.R.Rule.meaning l.fn.rules in
    (map g.R.Rule.meaning l.rules ≡ meanings)
    × From l.place (HasHeard g.R.Rule.heard file (events_of meanings file (walk (rows_in file)))) l.rules
    × (l.reports.items ≡ flat_map (reports_at meanings file) (range_with_len 0 l.place))
    × (reports_fit (text_bytes file.text) l.reports.items ≡ true)
    × (fixes_fit (text_bytes file.text) l.reports.items ≡ true)
