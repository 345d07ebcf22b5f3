use Rattle.es_config.specs.declared.decision.Decision.TheVariants as decision
use Rattle.es_run.proofs.PartsLemmas.{part_when, set_taken}
use Rattle.es_run.proofs.gathering.part_of.Goals as goal

pub returns-in_ok-bytes-in-Lint-clause-taken : goal.returns-in_ok-bytes-in-Lint-clause-taken
returns-in_ok-bytes-in-Lint-clause-taken g c = (
  set_taken c.args.config.now _ c.in-Lint.set c.in-Lint.is c.in_ok-set.ensures.taken,
  c.in_ok-bytes-in-Lint.ensures.short,
)

pub returns-in-Ignored-clause-value : goal.returns-in-Ignored-clause-value
returns-in-Ignored-clause-value g c held _ =
    part_when c.args.inline c.args.config.now held c.args.before c.as_str.result.now c.args.name.now _ decision.Ignored
    c.as_str.ensures.characters c.in_ok-set.ensures.value c.in-Ignored.is

pub returns-in-Unmatched-clause-value : goal.returns-in-Unmatched-clause-value
returns-in-Unmatched-clause-value g c held _ =
    part_when c.args.inline c.args.config.now held c.args.before c.as_str.result.now c.args.name.now _ decision.Unmatched
    c.as_str.ensures.characters c.in_ok-set.ensures.value c.in-Unmatched.is

pub returns-in-Outside-clause-value : goal.returns-in-Outside-clause-value
returns-in-Outside-clause-value g c held _ =
    part_when c.args.inline c.args.config.now held c.args.before c.as_str.result.now c.args.name.now _ decision.Outside
    c.as_str.ensures.characters c.in_ok-set.ensures.value c.in-Outside.is
