use Rattle.std.proofs.Common.{◌∙◌, ◌++◌, ◌∷◌, [], ap}
use Rattle.es_messages.specs.declared.directive.BadEntry.{BadEntry}
use Rattle.es_lint.specs.Bad.{bad_report, misshapen_in}
use Rattle.es_lint.proofs.BadLemmas.{map_join, more_of}
use Rattle.es_lint.proofs.bad.add_misshapen.Goals as goal

pub loop-part-preserved : goal.loop-part-preserved
loop-part-preserved c =
    let told = λ (bad : BadEntry). bad_report c.args.span bad.text in
    c.in_ok-push.ensures.items
    ∙ ap (λ report. c.loop-part.reports.items ++ report ∷ []) (c.in_ok-bad_report.ensures ∙ ap (bad_report c.args.span) c.as_str.ensures.characters)
    ∙ ap (λ reports. reports ++ misshapen_in c.args.span (c.part-item.result ∷ [])) c.loop-part.invariant
    ∙ more_of (misshapen_in c.args.span) (map_join told) c.args.reports.now.items c.args.parts.now c.loop-part.part-index c.part-item.result c.loop-part-test.true c.part-item.is
