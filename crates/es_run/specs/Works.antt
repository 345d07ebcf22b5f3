-- What all the work of a run of a plan answers before it writes anything, with one kit.
use Rattle.std.specs.Prelude.{◌≡◌, ℕ, suc, ◌+◌, ◌*◌, ◌≤◌, ◌⊎◌, List, [], All, None, Result, Ok, Err, encode_utf8_all, length, string_bytes}
use Rattle.std.specs.Option.{ForSome}
use Rattle.es_files.specs.Outside.{FilesState, HasFailed, Held, reading}
use Rattle.es_host.specs.Meanings.{Meaning}
use Rattle.es_lint.specs.Passes.{most_passes}
use Rattle.es_lint.specs.Results.{AtMost, more}
use Rattle.es_plan.specs.declared.plan.LintPlan.{LintPlan}
use Rattle.es_settings.specs.declared.mode.Mode.TheVariants.{Report}
use Rattle.es_run.specs.declared.status.Fault.{Fault}
use Rattle.es_run.specs.declared.status.Fault.TheVariants as fault
use Rattle.es_run.specs.declared.status.StopCause.TheVariants as cause
use Rattle.es_run.specs.declared.reporting.Made.{Made}
use Rattle.es_run.specs.declared.reporting.Write.{Write}
use Rattle.es_run.specs.declared.runner.Task.{Task}
use Rattle.es_run.specs.Courses.{IsRefusal, answer_of}
use Rattle.es_run.specs.Fresh.{Answer, FreshPlan, Planned, stopped}
use Rattle.es_run.specs.Gathering.{IsOneOf}
use Rattle.es_run.specs.Stages.{IsPrepared}

-- how often the kit listened, and how many steps were taken
pub record KitCounts : Type 0 where
  pub lints : ℕ
  pub steps : ℕ

abbrev pub kit_counts : ℕ → ℕ → KitCounts
kit_counts lints steps = record { lints = lints; steps = steps }

-- the plan of this task under the configuration of this name
abbrev pub plan_in : List ℕ → Task → LintPlan
plan_in config task = record {
  config = config;
  json = task.manner.json;
  mode = task.mode;
  quiet = task.manner.quiet;
  max_warnings = task.manner.limit;
  inline = task.inline;
  names = task.names;
}

abbrev pub planned_by : List Meaning → LintPlan → Held → Planned
planned_by meanings plan held = record { meanings = meanings; plan = plan; held = held }

-- a fresh run of a plan gives this answer and no other
pub record IsThePlans (given : Planned) (answer : Answer) : Type 0 where
  pub gives : FreshPlan given answer
  pub only : (other : Answer) → FreshPlan given other → other ≡ answer

-- it makes this, and the counts go up as in it
pub record IsToldOf (given : Planned) (before now : KitCounts) (made : Made) : Type 0 where
  pub linted : ℕ
  pub heard : ℕ
  pub fresh : IsThePlans given (answer_of made linted heard)
  pub listens : now.lints ≡ more heard before.lints
  pub steps : now.steps ≡ before.steps + linted

-- what is made for the plan, whatever is told of the files
pub record IsMadeOf (plan : LintPlan) (made : Made) : Type 0 where
  pub quiet : plan.max_warnings ≡ None → string_bytes made.line ≡ []
  pub reads : plan.mode ≡ Report → made.writes.items ≡ []
  pub asked : (write : Write) → IsOneOf made.writes.items write → IsOneOf plan.names write.name
  pub prepared : All (IsPrepared plan.config) made.writes.items

-- the counts go up by so much at most
pub record StaysWithin (plan : LintPlan) (before now : KitCounts) : Type 0 where
  pub listens : AtMost (suc (most_passes plan.mode) * length plan.names) before.lints now.lints
  pub steps : now.steps ≤ before.steps + length plan.names

-- and by no more than in a fresh run
abbrev pub StaysWithinFresh : Planned → KitCounts → KitCounts → Type 0
StaysWithinFresh given before now =
    (answer : Answer) → FreshPlan given answer →
    AtMost answer.heard before.lints now.lints × (now.steps ≤ before.steps + answer.linted)

-- the last failed call is the read of the configuration, or of a name of the plan
abbrev pub IsUnreadOf : LintPlan → List ℕ → FilesState → FilesState → Type 0
IsUnreadOf plan name before now =
    ((name ≡ plan.config) ⊎ IsOneOf plan.names name) × HasFailed before (reading (encode_utf8_all name)) now

module _ (meanings : List Meaning) (plan : LintPlan) (before now : FilesState) (from to : KitCounts) where
  -- the work is done, or a fresh run stops for this cause, or something can't be read, or it is out of memory
  abbrev pub Worked : Result Made Fault → Type 0
  Worked (Ok made) =
      ForSome before.holds (λ held. IsToldOf (planned_by meanings plan held) from to made)
      × (IsMadeOf plan made × (StaysWithin plan from to × (now ≡ before)))
  Worked (Err (fault.Stop (cause.CannotRead name))) =
      IsUnreadOf plan name before now × ((now.holds ≡ before.holds) × (to ≡ from))
  Worked (Err (fault.Stop why)) =
      IsRefusal why × (ForSome before.holds (λ held. IsThePlans (planned_by meanings plan held) (stopped plan.config why))
      × ((now ≡ before) × (to ≡ from)))
  Worked (Err fault.NoMemory) =
      (now.holds ≡ before.holds)
      × (ForSome before.holds (λ held. StaysWithinFresh (planned_by meanings plan held) from to) × StaysWithin plan from to)
