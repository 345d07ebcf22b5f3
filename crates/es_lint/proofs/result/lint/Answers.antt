use Rattle.std.proofs.lemmas.Result.{IfOk-weaker}
use Rattle.es_settings.specs.Settings.{settings_of}
use Rattle.es_host.specs.Kits.{meanings_of}
use Rattle.es_lint.proofs.CountsLemmas.{never}
use Rattle.es_lint.proofs.FixesLemmas.{linted_of, listens_of, most_of}
use Rattle.es_lint.proofs.result.lint.Goals as goal

pub returns-clause-linted : goal.returns-clause-linted
returns-clause-linted g c =
    IfOk-weaker c.told_of.result _ _
    (λ told is. linted_of (meanings_of g.R.Rule.meaning c.args.kit.now) (settings_of c.args.config.now) c.args.mode c.most_passes.result c.args.bytes.now c.in_ok-source.source
    c.most_passes.ensures c.in_ok-source.ensures c.args.kit.now.lints c.fix_text.new.kit.lints c.marked-marked.result c.in_ok-passed.passed told
    c.marked-marked.ensures c.in_ok-passed.ensures.passes is) c.told_of.ensures

pub returns-clause-lintings : goal.returns-clause-lintings
returns-clause-lintings g c =
    listens_of (meanings_of g.R.Rule.meaning c.args.kit.now) (settings_of c.args.config.now) c.args.mode c.most_passes.result c.args.bytes.now c.in_ok-source.source
    c.most_passes.ensures c.in_ok-source.ensures c.args.kit.now.lints c.fix_text.new.kit.lints c.fix_text.ensures.lintings

pub returns-clause-most : goal.returns-clause-most
returns-clause-most g c =
    most_of (meanings_of g.R.Rule.meaning c.args.kit.now) (settings_of c.args.config.now) c.args.mode c.most_passes.result c.args.bytes.now c.in_ok-source.source
    c.most_passes.ensures c.in_ok-source.ensures c.args.kit.now.lints c.fix_text.new.kit.lints c.fix_text.ensures.most

pub returns-in_err-passed-clause-lintings : goal.returns-in_err-passed-clause-lintings
returns-in_err-passed-clause-lintings g c =
    listens_of (meanings_of g.R.Rule.meaning c.args.kit.now) (settings_of c.args.config.now) c.args.mode c.most_passes.result c.args.bytes.now c.in_ok-source.source
    c.most_passes.ensures c.in_ok-source.ensures c.args.kit.now.lints c.fix_text.new.kit.lints c.fix_text.ensures.lintings

pub returns-in_err-passed-clause-most : goal.returns-in_err-passed-clause-most
returns-in_err-passed-clause-most g c =
    most_of (meanings_of g.R.Rule.meaning c.args.kit.now) (settings_of c.args.config.now) c.args.mode c.most_passes.result c.args.bytes.now c.in_ok-source.source
    c.most_passes.ensures c.in_ok-source.ensures c.args.kit.now.lints c.fix_text.new.kit.lints c.fix_text.ensures.most

pub returns-in_err-source-clause-lintings : goal.returns-in_err-source-clause-lintings
returns-in_err-source-clause-lintings g c = λ fixed fixes. never fixed.heard c.args.kit.now.lints

pub returns-in_err-source-clause-most : goal.returns-in_err-source-clause-most
returns-in_err-source-clause-most g c = never _ c.args.kit.now.lints
