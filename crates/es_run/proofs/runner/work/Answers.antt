use Rattle.std.proofs.Common.{◌∙◌, ap}
use Rattle.es_files.specs.Outside.{FilesState}
use Rattle.es_host.specs.Kits.{meanings_of}
use Rattle.es_run.specs.Works.{kit_counts, plan_in}
use Rattle.es_run.proofs.WorkLemmas.{all_made, fits_all, memoryless, unconfigured, ungathered}
use Rattle.es_run.proofs.runner.work.Goals as goal

pub returns-in-Err-clause-worked : goal.returns-in-Err-clause-worked
returns-in-Err-clause-worked g c =
    unconfigured (meanings_of g.R.Rule.meaning c.args.kit.now) (plan_in c.args.config_name.now c.args.task) (g.F.Files.state c.args.files.now)
    (g.F.Files.state c.configure.new.files) (kit_counts c.args.kit.now.lints c.args.steps.now) c.in-Err.fault
    c.in-Err.ensures.refused c.in-Err.ensures.blame c.configure.ensures.same

pub returns-in-Err-gather-clause-worked : goal.returns-in-Err-gather-clause-worked
returns-in-Err-gather-clause-worked g c =
    ungathered (meanings_of g.R.Rule.meaning c.args.kit.now) (plan_in c.args.config_name.now c.args.task) (g.F.Files.state c.args.files.now)
    c.in-Ok.config c.in-Ok.ensures.count c.in-Ok.ensures.value
    (g.F.Files.state c.configure.new.files) (g.F.Files.state c.gather.new.files) (kit_counts c.args.kit.now.lints c.args.steps.now)
    c.in-Err-gather.fault c.in-Ok.ensures.still c.in-Err-gather.ensures.value c.in-Err-gather.ensures.blame c.gather.ensures.same

pub lint_all-requires : goal.lint_all-requires
lint_all-requires g c =
    fits_all (meanings_of g.R.Rule.meaning c.args.kit.now) c.in-Ok.config c.in-Ok.ensures.count c.requires.options c.in-Ok.ensures.taken
    c.in-Ok-gather.parts.items c.in-Ok-gather.ensures.taken

pub returns-in_default-clause-worked : goal.returns-in_default-clause-worked
returns-in_default-clause-worked g c =
    memoryless (meanings_of g.R.Rule.meaning c.args.kit.now) (plan_in c.args.config_name.now c.args.task) (g.F.Files.state c.args.files.now)
    c.in-Ok.config c.in-Ok.ensures.count c.in-Ok.ensures.value
    c.in-Ok-gather.parts.items c.in-Ok-gather.ensures.named
    (λ held is. c.in-Ok-gather.ensures.value held (ap (λ (f : FilesState). f.holds) c.in-Ok.ensures.still ∙ is))
    (kit_counts c.args.kit.now.lints c.args.steps.now) (kit_counts c.lint_all.new.kit.lints c.lint_all.new.steps)
    c.lint_all.ensures.lintings c.lint_all.ensures.most c.lint_all.ensures.few
    (g.F.Files.state c.gather.new.files) (c.in-Ok-gather.ensures.still ∙ c.in-Ok.ensures.still)

pub returns-in-Ok-make-clause-worked : goal.returns-in-Ok-make-clause-worked
returns-in-Ok-make-clause-worked g c =
    all_made (meanings_of g.R.Rule.meaning c.args.kit.now) (plan_in c.args.config_name.now c.args.task) (g.F.Files.state c.args.files.now)
    c.in-Ok.config c.in-Ok.ensures.count c.in-Ok.ensures.value
    c.in-Ok-gather.parts.items c.in-Ok-gather.ensures.named
    (λ held is. c.in-Ok-gather.ensures.value held (ap (λ (f : FilesState). f.holds) c.in-Ok.ensures.still ∙ is))
    (kit_counts c.args.kit.now.lints c.args.steps.now) (kit_counts c.lint_all.new.kit.lints c.lint_all.new.steps)
    c.lint_all.ensures.lintings c.lint_all.ensures.most c.lint_all.ensures.few
    c.in-Ok-lint_all.results.items c.in-Ok-make.made c.in-Ok-lint_all.ensures.linted c.in-Ok-lint_all.ensures.ticked
    c.in-Ok-make.ensures.made c.in-Ok-make.ensures.prepared c.in-Ok-make.ensures.quiet
    (g.F.Files.state c.gather.new.files) (c.in-Ok-gather.ensures.still ∙ c.in-Ok.ensures.still)

pub returns-clause-worked : goal.returns-clause-worked
returns-clause-worked g c =
    memoryless (meanings_of g.R.Rule.meaning c.args.kit.now) (plan_in c.args.config_name.now c.args.task) (g.F.Files.state c.args.files.now)
    c.in-Ok.config c.in-Ok.ensures.count c.in-Ok.ensures.value
    c.in-Ok-gather.parts.items c.in-Ok-gather.ensures.named
    (λ held is. c.in-Ok-gather.ensures.value held (ap (λ (f : FilesState). f.holds) c.in-Ok.ensures.still ∙ is))
    (kit_counts c.args.kit.now.lints c.args.steps.now) (kit_counts c.lint_all.new.kit.lints c.lint_all.new.steps)
    c.lint_all.ensures.lintings c.lint_all.ensures.most c.lint_all.ensures.few
    (g.F.Files.state c.gather.new.files) (c.in-Ok-gather.ensures.still ∙ c.in-Ok.ensures.still)
