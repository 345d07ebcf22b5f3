-- How a run goes: one of a few courses, off which all that is said of a run is read.
use Rattle.std.specs.Prelude.{◌≡◌, ℕ, ◌+◌, ◌≤◌, List, [], Ok, map, string_bytes}
use Rattle.std.specs.Option.{ForSome}
use Rattle.es_files.specs.Outside.{Held}
use Rattle.es_host.specs.Meanings.{Meaning}
use Rattle.es_plan.specs.declared.plan.LintPlan.{LintPlan}
use Rattle.es_plan.specs.declared.plan.Plan.{Plan}
use Rattle.es_plan.specs.declared.plan.Plan.TheVariants.{Lint}
use Rattle.es_plan.specs.Plans.{plan_of}
use Rattle.es_run.specs.declared.reporting.Made.{Made}
use Rattle.es_run.specs.declared.reporting.Write.{Write}
use Rattle.es_run.specs.declared.status.Status.{Status}
use Rattle.es_run.specs.declared.status.Status.TheVariants as status
use Rattle.es_run.specs.declared.status.StopCause.{StopCause}
use Rattle.es_run.specs.declared.status.StopCause.TheVariants as cause
use Rattle.es_run.specs.Ends.{Ends, World}
use Rattle.es_run.specs.Fresh.{Answer, Given, IsTheAnswer, stopped}
use Rattle.es_run.specs.Kits.{HeardAtMost, first_heard}
use Rattle.es_run.specs.Runs.{AskNoFixes, IsTold, IsUnread, ListensAtMostAsFresh, RefusesWords, SetNoLimit, StepsAtMostAsFresh, config_of, most_lintings, most_steps}
use Rattle.es_run.specs.Gathering.{IsOneOf}
use Rattle.es_run.specs.Stages.{done_status, write_in}
use Rattle.es_run.specs.Statuses.{fault_line}

-- how often each kit listened, and how many steps were taken
pub record Counts : Type 0 where
  pub lints : List ℕ
  pub steps : ℕ

abbrev pub counts : List ℕ → ℕ → Counts
counts lints steps = record { lints = lints; steps = steps }

-- what a run finds and leaves
pub record Scene : Type 0 where
  pub world : World
  pub counts : Counts

abbrev pub scene : World → Counts → Scene
scene world counts = record { world = world; counts = counts }

-- the causes for which a run with a plan stops as a fresh one does
abbrev pub IsRefusal : StopCause → Type 0
IsRefusal cause.ConfigMissing = Unit {0}
IsRefusal (cause.BadConfig kind pointer) = Unit {0}
IsRefusal (cause.NoFile name) = Unit {0}
IsRefusal (cause.TooLong name) = Unit {0}
IsRefusal (cause.TooMuch bytes) = Unit {0}
IsRefusal _ = ⊥

-- the answer of a fresh run that makes this, lints so many files and listens so often
abbrev pub answer_of : Made → ℕ → ℕ → Answer
answer_of made linted heard = record {
  status = done_status made.clean;
  writes = map write_in made.writes.items;
  output = string_bytes made.text;
  line = string_bytes made.line;
  linted = linted;
  heard = heard;
}

-- a fresh run makes this, and the counts go up as in it
pub record IsForetold (given : Given) (before now : Counts) (made : Made) : Type 0 where
  pub linted : ℕ
  pub heard : ℕ
  pub fresh : IsTheAnswer given (answer_of made linted heard)
  pub listens : now.lints ≡ first_heard heard before.lints
  pub steps : now.steps ≡ before.steps + linted

-- what is made for these words, whatever is told of the files
pub record IsMadeFor (words : List (List ℕ)) (made : Made) : Type 0 where
  pub plan : Plan
  pub asks : plan_of words ≡ Ok plan
  pub quiet : SetNoLimit words → string_bytes made.line ≡ []
  pub reads : AskNoFixes words → made.writes.items ≡ []
  pub asked : (linted : LintPlan) → plan_of words ≡ Ok (Lint linted) → (write : Write) → IsOneOf made.writes.items write →
      IsOneOf linted.names write.name

-- the counts go up by so much at most
pub record IsWithin (words : List (List ℕ)) (before now : Counts) : Type 0 where
  pub listens : HeardAtMost (most_lintings words) before.lints now.lints
  pub steps : now.steps ≤ before.steps + most_steps words

-- and by no more than in a fresh run
pub record IsWithinFresh (given : Given) (before now : Counts) : Type 0 where
  pub listens : ListensAtMostAsFresh given before.lints now.lints
  pub steps : StepsAtMostAsFresh given before.steps now.steps

abbrev pub given_to : List Meaning → List (List ℕ) → Held → Given
given_to meanings words held = record { meanings = meanings; words = words; held = held }

-- how a run goes with these words, where the rules of its first kit mean this
pub data Goes (meanings : List Meaning) (words : List (List ℕ)) (before now : Scene) (result : Status) : Type 0 where
  -- the words are refused
  unplanned : (cause : StopCause) → RefusesWords words cause → result ≡ status.Stopped cause →
      now.world.files ≡ before.world.files → now.world.out ≡ before.world.out →
      IsTold before.world.err (fault_line (config_of words) cause) now.world.err → now.counts ≡ before.counts →
      Goes meanings words before now result
  -- a fresh run stops for this cause
  refused : (plan : LintPlan) (cause : StopCause) → plan_of words ≡ Ok (Lint plan) → result ≡ status.Stopped cause →
      IsRefusal cause → ForSome before.world.files.holds (λ held. IsTheAnswer (given_to meanings words held) (stopped plan.config cause)) →
      now.world.files ≡ before.world.files → now.world.out ≡ before.world.out →
      IsTold before.world.err (fault_line (config_of words) cause) now.world.err → now.counts ≡ before.counts →
      Goes meanings words before now result
  -- the configuration or a file can't be read
  unread : (name : List ℕ) → result ≡ status.Stopped (cause.CannotRead name) →
      IsUnread words name before.world.files now.world.files → now.world.files.holds ≡ before.world.files.holds →
      now.world.out ≡ before.world.out → IsTold before.world.err (fault_line (config_of words) (cause.CannotRead name)) now.world.err →
      now.counts ≡ before.counts → Goes meanings words before now result
  -- it makes its report, and ends
  ended : (made : Made) → IsMadeFor words made →
      ForSome before.world.files.holds (λ held. IsForetold (given_to meanings words held) before.counts now.counts made) →
      IsWithin words before.counts now.counts → Ends (config_of words) made before.world now.world result →
      Goes meanings words before now result
  -- it is out of memory before that
  memoryless : result ≡ status.NoMemory → now.world.files.holds ≡ before.world.files.holds → now.world.out ≡ before.world.out →
      ForSome before.world.files.holds (λ held. IsWithinFresh (given_to meanings words held) before.counts now.counts) →
      IsWithin words before.counts now.counts → Goes meanings words before now result
