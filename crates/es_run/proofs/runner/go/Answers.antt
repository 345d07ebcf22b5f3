use Rattle.std.proofs.Common.{◌∙◌, Err, Ok, ap, refl}
use Rattle.es_run.specs.declared.status.StopCause.TheVariants as cause
use Rattle.es_run.proofs.RunningLemmas.{words_refused}
use Rattle.es_run.proofs.runner.go.Goals as goal

pub returns-in-Ok-Lint-clause-goes : goal.returns-in-Ok-Lint-clause-goes
returns-in-Ok-Lint-clause-goes g c = c.run_plan.ensures.goes _ (c.in-Ok-Lint.ensures.value ∙ ap Ok c.in-Ok-Lint.field-0-is)

pub run_text-requires-clause-few : goal.run_text-requires-clause-few
run_text-requires-clause-few g c =
    c.read_plan.ensures.few c.in-Ok-Generate.count (c.in-Ok-Generate.is ∙ ap Ok c.in-Ok-Generate.field-0-is)

pub returns-in-Ok-Generate-clause-goes : goal.returns-in-Ok-Generate-clause-goes
returns-in-Ok-Generate-clause-goes g c =
    c.run_text.ensures.goes _ (c.in-Ok-Generate.ensures.value ∙ ap Ok c.in-Ok-Generate.field-0-is)

pub returns-in-Err-BadWords-clause-goes : goal.returns-in-Err-BadWords-clause-goes
returns-in-Err-BadWords-clause-goes g c =
    words_refused _ _ _ _ _ _ _ _ _ _ cause.BadWords
    (c.read_plan.ensures.bad_words (c.in-Err-BadWords.is ∙ ap Err c.in-Err-BadWords.field-0-is))
    c.tell.ensures.status (λ is. c.tell.ensures.told is (λ h. absurd (cc))) refl refl

pub returns-in-Err-TooMany-clause-goes : goal.returns-in-Err-TooMany-clause-goes
returns-in-Err-TooMany-clause-goes g c =
    words_refused _ _ _ _ _ _ _ _ _ _ (cause.TooMany c.in-Err-TooMany.names)
    (c.read_plan.ensures.too_many c.in-Err-TooMany.names (c.in-Err-TooMany.is ∙ ap Err c.in-Err-TooMany.field-0-is))
    c.tell-in-Err-TooMany.ensures.status (λ is. c.tell-in-Err-TooMany.ensures.told is (λ h. absurd (cc))) refl refl
