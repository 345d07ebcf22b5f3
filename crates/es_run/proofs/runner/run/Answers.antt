use Rattle.es_run.specs.declared.status.StopCause.TheVariants as cause
use Rattle.es_run.proofs.CoursesLemmas.{course, course_all_printed, course_cannot_print, course_cannot_read, course_cannot_write, course_complete, course_few_ticks, course_fresh, course_half, course_left, course_lintings, course_listens, course_most, course_no_failure, course_no_tick, course_part, course_quiet, course_reads, course_refused, course_rests, course_silent, course_some_printed, course_ticked, course_ticks, course_told, course_writes, goes_refused, goes_unplanned}
use Rattle.es_run.proofs.runner.run.Goals as goal

pub returns-clause-fresh : goal.returns-clause-fresh
returns-clause-fresh g c = course_fresh _ _ _ _ _ (course _ _ _ _ _ c.go.ensures.goes)

pub returns-clause-writes : goal.returns-clause-writes
returns-clause-writes g c = course_writes _ _ _ _ _ (course _ _ _ _ _ c.go.ensures.goes)

pub returns-clause-complete : goal.returns-clause-complete
returns-clause-complete g c = course_complete _ _ _ _ _ (course _ _ _ _ _ c.go.ensures.goes)

pub returns-clause-bad_words : goal.returns-clause-bad_words
returns-clause-bad_words g c =
    goes_refused _ _ _ _ _ c.go.ensures.goes cause.BadWords (λ h. absurd h) tt (λ name h. absurd (cc))

pub returns-clause-refused_words : goal.returns-clause-refused_words
returns-clause-refused_words g c = goes_unplanned _ _ _ _ _ c.go.ensures.goes cause.BadWords

pub returns-clause-too_many : goal.returns-clause-too_many
returns-clause-too_many g c = λ names.
    goes_refused _ _ _ _ _ c.go.ensures.goes (cause.TooMany names) (λ h. absurd h) tt (λ name h. absurd (cc))

pub returns-clause-refused_names : goal.returns-clause-refused_names
returns-clause-refused_names g c = λ names. goes_unplanned _ _ _ _ _ c.go.ensures.goes (cause.TooMany names)

pub returns-clause-cannot_read : goal.returns-clause-cannot_read
returns-clause-cannot_read g c = course_cannot_read _ _ _ _ _ (course _ _ _ _ _ c.go.ensures.goes)

pub returns-clause-cannot_write : goal.returns-clause-cannot_write
returns-clause-cannot_write g c = course_cannot_write _ _ _ _ _ (course _ _ _ _ _ c.go.ensures.goes)

pub returns-clause-half : goal.returns-clause-half
returns-clause-half g c = course_half _ _ _ _ _ (course _ _ _ _ _ c.go.ensures.goes)

pub returns-clause-cannot_print : goal.returns-clause-cannot_print
returns-clause-cannot_print g c = course_cannot_print _ _ _ _ _ (course _ _ _ _ _ c.go.ensures.goes)

pub returns-clause-part : goal.returns-clause-part
returns-clause-part g c = course_part _ _ _ _ _ (course _ _ _ _ _ c.go.ensures.goes)

pub returns-clause-told : goal.returns-clause-told
returns-clause-told g c = course_told _ _ _ _ _ (course _ _ _ _ _ c.go.ensures.goes)

pub returns-clause-quiet : goal.returns-clause-quiet
returns-clause-quiet g c = course_quiet _ _ _ _ _ (course _ _ _ _ _ c.go.ensures.goes)

pub returns-clause-silent : goal.returns-clause-silent
returns-clause-silent g c = course_silent _ _ _ _ _ (course _ _ _ _ _ c.go.ensures.goes)

pub returns-clause-no_failure : goal.returns-clause-no_failure
returns-clause-no_failure g c = course_no_failure _ _ _ _ _ (course _ _ _ _ _ c.go.ensures.goes)

pub returns-clause-all_printed : goal.returns-clause-all_printed
returns-clause-all_printed g c = course_all_printed _ _ _ _ _ (course _ _ _ _ _ c.go.ensures.goes)

pub returns-clause-some_printed : goal.returns-clause-some_printed
returns-clause-some_printed g c = course_some_printed _ _ _ _ _ (course _ _ _ _ _ c.go.ensures.goes)

pub returns-clause-reads : goal.returns-clause-reads
returns-clause-reads g c = course_reads _ _ _ _ _ (course _ _ _ _ _ c.go.ensures.goes)

pub returns-clause-refused : goal.returns-clause-refused
returns-clause-refused g c = course_refused _ _ _ _ _ (course _ _ _ _ _ c.go.ensures.goes)

pub returns-clause-left : goal.returns-clause-left
returns-clause-left g c = course_left _ _ _ _ _ (course _ _ _ _ _ c.go.ensures.goes)

pub returns-clause-listens : goal.returns-clause-listens
returns-clause-listens g c = course_listens _ _ _ _ _ (course _ _ _ _ _ c.go.ensures.goes)

pub returns-clause-rests : goal.returns-clause-rests
returns-clause-rests g c = course_rests _ _ _ _ _ (course _ _ _ _ _ c.go.ensures.goes)

pub returns-clause-lintings : goal.returns-clause-lintings
returns-clause-lintings g c = course_lintings _ _ _ _ _ (course _ _ _ _ _ c.go.ensures.goes)

pub returns-clause-most : goal.returns-clause-most
returns-clause-most g c = course_most _ _ _ _ _ (course _ _ _ _ _ c.go.ensures.goes)

pub returns-clause-ticked : goal.returns-clause-ticked
returns-clause-ticked g c = course_ticked _ _ _ _ _ (course _ _ _ _ _ c.go.ensures.goes)

pub returns-clause-no_tick : goal.returns-clause-no_tick
returns-clause-no_tick g c = course_no_tick _ _ _ _ _ (course _ _ _ _ _ c.go.ensures.goes)

pub returns-clause-ticks : goal.returns-clause-ticks
returns-clause-ticks g c = course_ticks _ _ _ _ _ (course _ _ _ _ _ c.go.ensures.goes)

pub returns-clause-few_ticks : goal.returns-clause-few_ticks
returns-clause-few_ticks g c = course_few_ticks _ _ _ _ _ (course _ _ _ _ _ c.go.ensures.goes)
