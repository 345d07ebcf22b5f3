use Rattle.std.proofs.Common.{◌∙◌, ap, length, subst, sym}
use Rattle.std.proofs.lemmas.List.{length-map}
use Rattle.std.proofs.lemmas.Result.{IfOk-weaker}
use Rattle.es_settings.specs.Settings.{setting_of}
use Rattle.es_host.specs.Files.{IsWhole, file_in}
use Rattle.es_host.specs.Kits.{meanings_of}
use Rattle.es_host.specs.Meanings.{Fits, Meaning}
use Rattle.es_host.specs.Reports.{kit_says}
use Rattle.es_lint.proofs.LaidLemmas.{fits_under, whole_under}
use Rattle.es_lint.proofs.linting.heard.Goals as goal

pub settings_under-requires : goal.settings_under-requires
settings_under-requires g c =
    ap length c.requires.ids
    ∙ length-map (meanings_of g.R.Rule.meaning c.args.kit.now) (λ (m : Meaning). m.id)
    ∙ sym c.requires.fits.count
    ∙ length-map c.args.file.now.config.now.rules setting_of

pub listen-requires-clause-whole : goal.listen-requires-clause-whole
listen-requires-clause-whole g c =
    subst (λ settings. IsWhole (record (file_in c.args.file.now) { settings = settings })) (sym c.in_ok-config.ensures)
    (whole_under c.args.list.now c.args.ids.now (file_in c.args.file.now) c.requires.whole)

pub listen-requires-clause-fits : goal.listen-requires-clause-fits
listen-requires-clause-fits g c =
    subst (λ settings. Fits (meanings_of g.R.Rule.meaning c.args.kit.now) (record (file_in c.args.file.now) { settings = settings })) (sym c.in_ok-config.ensures)
    (fits_under (meanings_of g.R.Rule.meaning c.args.kit.now) c.args.list.now c.args.ids.now (file_in c.args.file.now) c.requires.fits)

pub returns-clause-says : goal.returns-clause-says
returns-clause-says g c =
    IfOk-weaker c.listen.result _ _
    (λ reports is. is ∙ ap (λ settings. kit_says (meanings_of g.R.Rule.meaning c.args.kit.now) (record (file_in c.args.file.now) { settings = settings })) c.in_ok-config.ensures)
    c.listen.ensures.reports
