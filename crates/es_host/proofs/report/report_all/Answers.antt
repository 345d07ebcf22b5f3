use Rattle.std.proofs.Common.{rules, ◌≡◌, ◌∙◌, ℕ, ◌<◌, ◌++◌, List, length, map, ap, sym}
use Rattle.std.proofs.Math.Seq.{map-set_same}
use Rattle.es_settings.specs.Settings.{options_of}
use Rattle.es_host.specs.declared.file.FileView.{FileView}
use Rattle.es_host.proofs.ListsLemmas.{From-set, range-more}
use Rattle.es_host.proofs.MeaningsLemmas.{set-within}
use Rattle.es_host.proofs.ReportsLemmas.{reports-here}
use Rattle.es_host.specs.Files.{file_in, rows_in}
use Rattle.es_host.specs.Hearing.{HasHeard, events_of}
use Rattle.es_host.specs.Meanings.{Meaning}
use Rattle.es_host.specs.Reports.{reports_at, said_at}
use Rattle.es_host.specs.Walk.{walk}
use Rattle.es_host.proofs.report.report_all.Goals as goal

pub returns-in_err-report_one-clause-same : goal.returns-in_err-report_one-clause-same
returns-in_err-report_one-clause-same g c =
    map-set_same g.R.Rule.meaning c.loop-place.rules c.loop-place.place c.report_one.new.rule c.index-rules-place.result (search rules) ∙ c.loop-place.invariant.0

pub loop-place-preserved : goal.loop-place-preserved
loop-place-preserved g c =
    let view : FileView = c.args.ctx.now.file.now in
    let meanings : List Meaning = map g.R.Rule.meaning c.args.rules.now in
    let i : ℕ = c.loop-place.place in
    let inside : i < length c.loop-place.rules = search rules in
    let set : i < length view.config.now.rules = set-within g.R.Rule.meaning view c.args.rules.now c.requires.fits c.loop-place.rules i c.loop-place.invariant.0 inside in
    let said = reports-here g.R.Rule.meaning view meanings c.loop-place.rules i c.index-rules-place.result c.index-settings-place.result
    c.loop-place.invariant.0 inside (search rules) set (search rules) in
    let given : c.report_one.new.reports.items ≡ c.loop-place.reports.items ++ said_at (g.R.Rule.meaning c.index-rules-place.result).id i
    c.index-settings-place.result.severity ((g.R.Rule.meaning c.index-rules-place.result).says (file_in view) (options_of c.index-settings-place.result.options)) = search rules in (
      map-set_same g.R.Rule.meaning c.loop-place.rules i c.report_one.new.rule c.index-rules-place.result (search rules) ∙ c.loop-place.invariant.0,
      From-set (HasHeard g.R.Rule.heard (file_in view) (events_of meanings (file_in view) (walk (rows_in (file_in view))))) c.loop-place.rules i c.report_one.new.rule c.loop-place.invariant.1,
      given
          ∙ ap (λ reports. c.loop-place.reports.items ++ reports) (sym said)
          ∙ ap (λ reports. reports ++ reports_at meanings (file_in view) i) c.loop-place.invariant.2
          ∙ sym (range-more (reports_at meanings (file_in view)) i),
      c.in_ok-report_one.ensures.inside c.loop-place.invariant.3,
      c.in_ok-report_one.ensures.fixes c.loop-place.invariant.4,
    )
