use Rattle.std.proofs.Common.{◌∙◌, refl}
use Rattle.std.proofs.lemmas.Str.{chars-nil}
use Rattle.es_run.proofs.RunningLemmas.{idle, text_ended, text_memoryless}
use Rattle.es_run.proofs.runner.run_text.Goals as goal

pub returns-in-Err-clause-goes : goal.returns-in-Err-clause-goes
returns-in-Err-clause-goes g c = λ words asks. idle _ words _ _ _ _ _ _ _ _ c.no_memory.ensures refl refl

pub returns-in-Ok-generate-clause-goes : goal.returns-in-Ok-generate-clause-goes
returns-in-Ok-generate-clause-goes g c = λ words asks.
    text_ended g.R.Rule.meaning c.args.kits.now.items c.index_mut.result.now c.generate.new.kit _ _ c.requires.kits c.index_mut.ensures.value
    words c.args.count asks _ _ _ _ _ _ _ c.in-Ok.name c.in-Ok-generate.made (c.in-Ok.ensures ∙ chars-nil)
    c.in-Ok-generate.ensures.made c.in-Ok-generate.ensures.nothing c.in-Ok-generate.ensures.ticked c.generate.ensures.most c.end.ensures

pub returns-clause-goes : goal.returns-clause-goes
returns-clause-goes g c = λ words asks.
    text_memoryless g.R.Rule.meaning c.args.kits.now.items c.index_mut.result.now c.generate.new.kit _ _ c.requires.kits c.index_mut.ensures.value
    words c.args.count asks _ _ _ _ _ c.generate.ensures.lintings c.generate.ensures.few c.generate.ensures.most c.no_memory-in-Err-generate.ensures
