use Rattle.std.proofs.Common.{rules, ◌≡◌, ◌∙◌, ap, length, subst}
use Rattle.es_settings.specs.declared.mode.Mode.TheVariants.{Report}
use Rattle.es_host.specs.Kits.{meanings_of}
use Rattle.es_run.specs.Gathering.{Part}
use Rattle.es_run.specs.Generated.{set_text}
use Rattle.es_run.specs.Stages.{ListensAtMost}
use Rattle.es_run.proofs.GeneratedLemmas.{report_made}
use Rattle.es_run.proofs.generating.generate.Goals as goal

pub returns-in_err-told-clause-lintings : goal.returns-in_err-told-clause-lintings
returns-in_err-told-clause-lintings g c =
    let meanings = meanings_of g.R.Rule.meaning c.args.kit.now in
    subst (λ (part : Part). ListensAtMost meanings Report part c.args.kit.now.lints c.result_of.new.kit.lints)
    (c.in_ok-part.ensures.part ∙ ap (set_text (length meanings)) c.in_ok-text.ensures.text) c.result_of.ensures.lintings

pub returns-clause-lintings : goal.returns-clause-lintings
returns-clause-lintings g c =
    let meanings = meanings_of g.R.Rule.meaning c.args.kit.now in
    subst (λ (part : Part). ListensAtMost meanings Report part c.args.kit.now.lints c.result_of.new.kit.lints)
    (c.in_ok-part.ensures.part ∙ ap (set_text (length meanings)) c.in_ok-text.ensures.text) c.result_of.ensures.lintings

pub returns-clause-made : goal.returns-clause-made
returns-clause-made g c =
    let meanings = meanings_of g.R.Rule.meaning c.args.kit.now in
    let bytes : c.len-bytes.result ≡ length c.in_ok-text.text.items = search rules in
    report_made meanings c.args.count c.args.kit.now.lints c.result_of.new.kit.lints _ c.in_ok-told.told c.make.result c.len-bytes.result c.len.result
    (c.in_ok-part.ensures.part ∙ ap (set_text (length meanings)) c.in_ok-text.ensures.text)
    (bytes ∙ ap length c.in_ok-text.ensures.text) c.len.ensures
    c.in_ok-told.ensures.linted c.make.ensures.text c.make.ensures.clean c.make.ensures.line c.make.ensures.writes
