use Rattle.std.proofs.Common.{◌≡◌, ◌∙◌, ℕ, List, [], ◌∷◌, ◌++◌, map, take, ap, sym, subst}
use Rattle.std.specs.List.{All}
use Rattle.std.proofs.lemmas.List.{map-append, take_more}
use Rattle.std.proofs.lemmas.List.Elements.{All-push}
use Rattle.es_text.specs.declared.finding.Report.{Report}
use Rattle.es_messages.specs.Standings.{Stands, report_of}
use Rattle.es_messages.proofs.unused.standings.Goals as goal

pub loop-report-preserved : goal.loop-report-preserved
loop-report-preserved c =
    let i : ℕ = c.loop-report.report-index in
    let report : Report = c.report-item.result in
    record {
      reports = ap (map report_of) c.in_ok-push.ensures.items ∙ map-append report_of c.loop-report.standings.items _
          ∙ ap (λ front. front ++ report ∷ []) c.loop-report.invariant.reports
          ∙ sym (take_more c.args.reports.now i report c.loop-report-test.true ∙ ap (λ one. take i c.args.reports.now ++ one ∷ []) (sym c.report-item.is));
      all = subst (All (Stands c.args.source.now.characters c.args.marks.now)) (sym c.in_ok-push.ensures.items)
          (All-push (Stands c.args.source.now.characters c.args.marks.now) c.loop-report.standings.items _ c.loop-report.invariant.all
          (record { line = c.line_of-line.ensures; last = c.last_of-last.ensures }));
    }
