use Rattle.std.proofs.Common.{◌∙◌, ◌++◌, ◌∷◌, [], ap}
use Rattle.es_text.specs.Texts.{text_bytes}
use Rattle.es_lint.specs.Bad.{unknown_in}
use Rattle.es_lint.proofs.BadLemmas.{more_of, unknown_join}
use Rattle.es_lint.proofs.bad.add_unknown.Goals as goal

pub loop-entry-preserved : goal.loop-entry-preserved
loop-entry-preserved c =
    let ids = c.args.ids.now in
    let bytes = text_bytes c.args.source.now in
    c.in_ok-add_if_unknown.ensures
    ∙ ap (λ reports. reports ++ unknown_in ids bytes c.args.span (c.entry-item.result ∷ [])) c.loop-entry.invariant
    ∙ more_of (unknown_in ids bytes c.args.span) (unknown_join ids bytes c.args.span) c.args.reports.now.items c.args.entries.now c.loop-entry.entry-index c.entry-item.result c.loop-entry-test.true c.entry-item.is
