use Rattle.es_run.proofs.RunningLemmas.{plan_ended, plan_memoryless, plan_stopped}
use Rattle.es_run.proofs.runner.run_plan.Goals as goal

pub returns-in-Ok-clause-goes : goal.returns-in-Ok-clause-goes
returns-in-Ok-clause-goes g c = λ words asks.
    plan_ended g.R.Rule.meaning c.args.kits.now.items c.index_mut.result.now c.work.new.kit _ _ c.requires.kits c.index_mut.ensures.value
    words c.args.plan asks _ _ _ _ _ _ _ _ c.in-Ok.made c.in-Ok.ensures.worked c.end.ensures

pub returns-in-Err-Stop-clause-goes : goal.returns-in-Err-Stop-clause-goes
returns-in-Err-Stop-clause-goes g c = λ words asks.
    plan_stopped g.R.Rule.meaning c.args.kits.now.items c.index_mut.result.now c.work.new.kit _ _ c.requires.kits c.index_mut.ensures.value
    words c.args.plan asks _ _ _ _ _ _ _ c.in-Err-Stop.cause c.in-Err-Stop.field-0-is c.in-Err-Stop.ensures.worked
    c.refuse.ensures.status c.refuse.ensures.told

pub returns-clause-goes : goal.returns-clause-goes
returns-clause-goes g c = λ words asks.
    plan_memoryless g.R.Rule.meaning c.args.kits.now.items c.index_mut.result.now c.work.new.kit _ _ c.requires.kits c.index_mut.ensures.value
    words c.args.plan asks _ _ _ _ _ _ _ c.in-Err-NoMemory.field-0-is c.in-Err-NoMemory.ensures.worked c.no_memory.ensures
