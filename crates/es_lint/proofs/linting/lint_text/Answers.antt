use Rattle.std.proofs.lemmas.Result.{IfOk-weaker}
use Rattle.es_settings.specs.Settings.{settings_of}
use Rattle.es_host.specs.Kits.{meanings_of}
use Rattle.es_lint.specs.Stages.{linting_of}
use Rattle.es_lint.proofs.CountsLemmas.{never}
use Rattle.es_lint.proofs.LintingLemmas.{fault_linted, parsed_linted, parsed_often}
use Rattle.es_lint.proofs.linting.lint_text.Goals as goal

pub returns-in-Ok-clause-linting : goal.returns-in-Ok-clause-linting
returns-in-Ok-clause-linting g c =
    IfOk-weaker c.lint_parsed.result _ _
    (λ found is. parsed_linted (meanings_of g.R.Rule.meaning c.args.kit.now) (settings_of c.args.config.now) c.args.source.now c.one_parse.ensures
    c.in-Ok.parsed (linting_of found) c.in-Ok.ensures.parsed is) c.lint_parsed.ensures.linting

pub returns-in-Err-clause-linting : goal.returns-in-Err-clause-linting
returns-in-Err-clause-linting g c =
    IfOk-weaker c.unparsed.result _ _
    (λ found is. fault_linted (meanings_of g.R.Rule.meaning c.args.kit.now) (settings_of c.args.config.now) c.args.source.now c.one_parse.ensures
    c.in-Err.fault (linting_of found) c.in-Err.ensures.fault is) c.unparsed.ensures.linting

pub returns-in-Ok-clause-lintings : goal.returns-in-Ok-clause-lintings
returns-in-Ok-clause-lintings g c =
    parsed_often (meanings_of g.R.Rule.meaning c.args.kit.now) (settings_of c.args.config.now) c.args.source.now c.one_parse.ensures
    c.in-Ok.parsed c.in-Ok.ensures.parsed c.args.kit.now.lints c.lint_parsed.new.kit.lints c.lint_parsed.ensures.once

pub returns-in-Err-clause-lintings : goal.returns-in-Err-clause-lintings
returns-in-Err-clause-lintings g c = λ linting lints. never linting.heard c.args.kit.now.lints
