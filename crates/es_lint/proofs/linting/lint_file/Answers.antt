use Rattle.std.proofs.Common.{◌∙◌, ap}
use Rattle.es_text.specs.Texts.{text_bytes}
use Rattle.es_host.specs.Files.{file_in}
use Rattle.es_host.specs.Kits.{meanings_of}
use Rattle.es_messages.specs.Suppression.{suppressed}
use Rattle.es_lint.proofs.FileLemmas.{file_linting, file_within}
use Rattle.es_lint.proofs.linting.lint_file.Goals as goal

pub returns-clause-linting : goal.returns-clause-linting
returns-clause-linting g c =
    let file = file_in c.args.file.now in
    let reports = c.in_ok-reports.reports.items in
    file_linting (meanings_of g.R.Rule.meaning c.args.kit.now) file c.as_slice-ids.result.now c.comments_in-comments.result.now c.in_ok-list.list reports c.in_ok-all.all
    (c.as_slice-ids.ensures.value ∙ c.in_ok-known.ensures) c.comments_in-comments.ensures.comments c.in_ok-list.ensures c.in_ok-reports.ensures.says
    (c.in_ok-all.ensures ∙ ap (λ marks. suppressed file.text.characters reports marks file.settings.unused) c.as_slice-marks.ensures)
    c.sorted.result c.sorted.ensures.stand c.sorted.ensures.suppressed c.sorted.ensures.heard

pub returns-clause-inside : goal.returns-clause-inside
returns-clause-inside g c =
    let file = file_in c.args.file.now in
    let reports = c.in_ok-reports.reports.items in
    file_within c.as_slice-ids.result.now file.text c.comments_in-comments.result.now c.in_ok-list.list reports file.settings.unused c.in_ok-all.all
    c.in_ok-list.ensures (c.in_ok-all.ensures ∙ ap (λ marks. suppressed file.text.characters reports marks file.settings.unused) c.as_slice-marks.ensures)
    (text_bytes file.text) c.comments_in-comments.ensures.inside c.in_ok-reports.ensures.inside c.in_ok-reports.ensures.fixes
    c.sorted.result c.sorted.ensures.stand c.sorted.ensures.suppressed
