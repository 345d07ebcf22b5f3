use Rattle.std.proofs.Common.{◌∙◌, ap}
use Rattle.es_text.specs.Texts.{text_bytes}
use Rattle.es_host.specs.Spans.{fixes_fit, reports_fit}
use Rattle.es_host.proofs.SpansLemmas.{fixes-fit-more, reports-fit-more}
use Rattle.es_host.proofs.report.report_one.Goals as goal

pub returns-clause-inside : goal.returns-clause-inside
returns-clause-inside g c = λ before.
    ap (reports_fit (text_bytes c.args.ctx.now.file.now.source.now)) c.in_ok-add_reports.ensures
    ∙ reports-fit-more _ c.args.reports.now.items _ _ _ c.in_ok-findings.findings.items c.in_ok-findings.ensures.inside before

pub returns-clause-fixes : goal.returns-clause-fixes
returns-clause-fixes g c = λ before.
    ap (fixes_fit (text_bytes c.args.ctx.now.file.now.source.now)) c.in_ok-add_reports.ensures
    ∙ fixes-fit-more _ c.args.reports.now.items _ _ _ c.in_ok-findings.findings.items c.in_ok-findings.ensures.inside before
