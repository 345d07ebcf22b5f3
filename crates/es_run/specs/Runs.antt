-- What the clauses of a run say: which statuses are settled, and what a run does beside a fresh one.
use Rattle.std.specs.Prelude.{◌≡◌, ◌≢◌, ℕ, suc, ◌+◌, ◌*◌, ◌≤◌, ◌⊎◌, ◌++◌, List, [], ◌∷◌, length, Option, None, Some, Result, Ok, Err, String, encode_utf8_all, map, string_bytes}
use Rattle.std.specs.declared.alloc.Global.{Global}
use Rattle.es_settings.specs.declared.mode.Mode.{Mode}
use Rattle.es_settings.specs.declared.mode.Mode.TheVariants.{Report}
use Rattle.es_plan.specs.declared.plan.LintPlan.{LintPlan}
use Rattle.es_plan.specs.declared.plan.Plan.{Plan}
use Rattle.es_plan.specs.declared.plan.Plan.TheVariants.{Generate, Lint}
use Rattle.es_plan.specs.declared.plan.PlanFault.{PlanFault}
use Rattle.es_plan.specs.declared.plan.PlanFault.TheVariants as fault
use Rattle.es_plan.specs.Plans.{plan_of}
use Rattle.es_lint.specs.Passes.{most_passes}
use Rattle.es_host.specs.Meanings.{Meaning}
use Rattle.es_files.specs.Outside.{FilesState, HasFailed, Held, LeavesPart, SentPart, SinkState, reading, with_sent, writing}
use Rattle.es_run.specs.declared.status.Status.{Status}
use Rattle.es_run.specs.declared.status.Status.TheVariants.{Clean, Problems, Stopped, NoMemory}
use Rattle.es_run.specs.declared.status.StopCause.{StopCause}
use Rattle.es_run.specs.declared.status.StopCause.TheVariants.{BadWords, TooMany, ConfigMissing, BadConfig, NoFile, TooLong, CannotRead, TooMuch, CannotWrite, CannotPrint}
use Rattle.es_run.specs.Fresh.{Answer, Fresh, Given, IsTheAnswer}
use Rattle.es_run.specs.Gathering.{IsOneOf}
use Rattle.es_run.specs.Kits.{HeardAtMost, first_heard}
use Rattle.es_run.specs.Reporting.{Writing}
use Rattle.std.specs.FinMap as finite

-- ---- statuses

-- the status is one that a fresh run can have: no fault of the outside, and not out of memory
abbrev pub IsSettled : Status → Type 0
IsSettled Clean = Unit {0}
IsSettled Problems = Unit {0}
IsSettled (Stopped BadWords) = Unit {0}
IsSettled (Stopped (TooMany names)) = Unit {0}
IsSettled (Stopped ConfigMissing) = Unit {0}
IsSettled (Stopped (BadConfig kind pointer)) = Unit {0}
IsSettled (Stopped (NoFile name)) = Unit {0}
IsSettled (Stopped (TooLong name)) = Unit {0}
IsSettled (Stopped (TooMuch bytes)) = Unit {0}
IsSettled _ = ⊥

-- the run printed its report
abbrev pub IsDone : Status → Type 0
IsDone Clean = Unit {0}
IsDone Problems = Unit {0}
IsDone _ = ⊥

-- the run made its report
abbrev pub IsReported : Status → Type 0
IsReported Clean = Unit {0}
IsReported Problems = Unit {0}
IsReported (Stopped (CannotWrite name)) = Unit {0}
IsReported (Stopped CannotPrint) = Unit {0}
IsReported _ = ⊥

-- the run stopped before it linted anything
abbrev pub IsRefused : Status → Type 0
IsRefused (Stopped BadWords) = Unit {0}
IsRefused (Stopped (TooMany names)) = Unit {0}
IsRefused (Stopped ConfigMissing) = Unit {0}
IsRefused (Stopped (BadConfig kind pointer)) = Unit {0}
IsRefused (Stopped (NoFile name)) = Unit {0}
IsRefused (Stopped (TooLong name)) = Unit {0}
IsRefused (Stopped (TooMuch bytes)) = Unit {0}
IsRefused (Stopped (CannotRead name)) = Unit {0}
IsRefused _ = ⊥

-- the run stopped before it printed anything
abbrev pub IsSilent : Status → Type 0
IsSilent (Stopped (CannotWrite name)) = Unit {0}
IsSilent status = IsRefused status

-- the run wrote all that it had to write
abbrev pub IsWritten : Status → Type 0
IsWritten (Stopped (CannotRead name)) = ⊥
IsWritten (Stopped (CannotWrite name)) = ⊥
IsWritten NoMemory = ⊥
IsWritten _ = Unit {0}

-- a fact of the name of a file that couldn't be read
abbrev pub IfCannotRead : Status → (List ℕ → Type 0) → Type 0
IfCannotRead (Stopped (CannotRead name)) P = P name
IfCannotRead _ P = Unit {0}

-- a fact of the name of a file that couldn't be written
abbrev pub IfCannotWrite : Status → (List ℕ → Type 0) → Type 0
IfCannotWrite (Stopped (CannotWrite name)) P = P name
IfCannotWrite _ P = Unit {0}

-- the status is this one, or the run was out of memory
abbrev pub IsUnlessNoMemory : Status → Status → Type 0
IsUnlessNoMemory status result = (result ≡ status) ⊎ (result ≡ NoMemory)

-- ---- what the words ask for

-- the words are refused for this cause
abbrev pub RefusesWords : List (List ℕ) → StopCause → Type 0
RefusesWords words BadWords = plan_of words ≡ Err fault.BadWords
RefusesWords words (TooMany names) = plan_of words ≡ Err (fault.TooMany names)
RefusesWords words _ = ⊥

abbrev pub config_in : Result Plan PlanFault → List ℕ
config_in (Ok (Lint plan)) = plan.config
config_in _ = []

-- the name of the configuration, if the words ask for a run with one
abbrev pub config_of : List (List ℕ) → List ℕ
config_of words = config_in (plan_of words)

abbrev pub mode_in : Result Plan PlanFault → Mode
mode_in (Ok (Lint plan)) = plan.mode
mode_in _ = Report

-- the words don't ask for fixes
abbrev pub AskNoFixes : List (List ℕ) → Type 0
AskNoFixes words = mode_in (plan_of words) ≡ Report

abbrev pub limit_in : Result Plan PlanFault → Option ℕ
limit_in (Ok (Lint plan)) = plan.max_warnings
limit_in _ = None

-- the words set no limit of warnings
abbrev pub SetNoLimit : List (List ℕ) → Type 0
SetNoLimit words = limit_in (plan_of words) ≡ None

abbrev pub most_lintings_in : Result Plan PlanFault → ℕ
most_lintings_in (Ok (Lint plan)) = suc (most_passes plan.mode) * length plan.names
most_lintings_in (Ok (Generate count)) = 1
most_lintings_in (Err why) = 0

-- how often the rules listen at most: for each name to its text, and to what each pass of fixes makes
abbrev pub most_lintings : List (List ℕ) → ℕ
most_lintings words = most_lintings_in (plan_of words)

abbrev pub most_steps_in : Result Plan PlanFault → ℕ
most_steps_in (Ok (Lint plan)) = length plan.names
most_steps_in (Ok (Generate count)) = 1
most_steps_in (Err why) = 0

-- how many steps a run takes at most
abbrev pub most_steps : List (List ℕ) → ℕ
most_steps words = most_steps_in (plan_of words)

-- ---- what a run does

-- what a run is given
abbrev pub given : List Meaning → List (String Global) → Held → Given
given meanings words held = record { meanings = meanings; words = map string_bytes words; held = held }

-- the two sinks of a run
pub record Sinks : Type 0 where
  pub out : SinkState
  pub err : SinkState

abbrev pub sinks : SinkState → SinkState → Sinks
sinks out err = record { out = out; err = err }

-- a line was sent, or its sending failed and some first part of it was
abbrev pub IsTold : SinkState → List ℕ → SinkState → Type 0
IsTold before line now = (now ≡ with_sent before line) ⊎ SentPart before line now

-- the run did what a fresh run does, which does nothing else: it has that status, printed that output and told that line
pub record DoesAsFresh (given : Given) (result : Status) (before now : Sinks) : Type 0 where
  pub answer : Answer
  pub fresh : IsTheAnswer given answer
  pub status : result ≡ answer.status
  pub printed : now.out ≡ with_sent before.out answer.output
  pub told : IsTold before.err answer.line now.err

-- what is held after these files are written
abbrev pub held_after : Held → List Writing → Held
held_after held [] = held
held_after held (writing ∷ later) = held_after (finite.insert held writing.name writing.bytes) later

-- the files hold what a fresh run leaves
pub record HoldsAsFresh (given : Given) (now : FilesState) : Type 0 where
  pub answer : Answer
  pub fresh : IsTheAnswer given answer
  pub holds : now.holds ≡ Some (held_after given.held answer.writes)

-- the files hold what a fresh run leaves that stops after some first ones of its writes
pub record HoldsFirst (given : Given) (now : FilesState) : Type 0 where
  pub answer : Answer
  pub fresh : IsTheAnswer given answer
  pub earlier : List Writing
  pub later : List Writing
  pub writes : answer.writes ≡ earlier ++ later
  pub holds : now.holds ≡ Some (held_after given.held earlier)

-- a write of a fresh run failed: earlier ones are held, its name holds what it held or a first part, and no later one
-- was tried
pub record WritesPart (given : Given) (name : List ℕ) (before now : FilesState) : Type 0 where
  pub answer : Answer
  pub fresh : IsTheAnswer given answer
  pub earlier : List Writing
  pub half : Writing
  pub later : List Writing
  pub writes : answer.writes ≡ earlier ++ half ∷ later
  pub same : half.name ≡ encode_utf8_all name
  pub failed : HasFailed before (writing half.name) now
  pub part : LeavesPart (record before { holds = Some (held_after given.held earlier) }) half.name half.bytes now

-- a failed read is to blame: the last failed call is the read of the configuration, or of a name that the words ask for
pub record IsUnread (words : List (List ℕ)) (name : List ℕ) (before now : FilesState) : Type 0 where
  pub plan : LintPlan
  pub asks : plan_of words ≡ Ok (Lint plan)
  pub asked : (name ≡ plan.config) ⊎ IsOneOf plan.names name
  pub failed : HasFailed before (reading (encode_utf8_all name)) now

-- a failed write is to blame: the last failed call is the write of a name of which the words ask for fixes
pub record IsUnwritten (words : List (List ℕ)) (name : List ℕ) (before now : FilesState) : Type 0 where
  pub plan : LintPlan
  pub asks : plan_of words ≡ Ok (Lint plan)
  pub fixes : plan.mode ≢ Report
  pub asked : IsOneOf plan.names name
  pub failed : HasFailed before (writing (encode_utf8_all name)) now

-- the files hold what they held, or what a fresh run leaves after some first ones of its writes, or one of these failed
abbrev pub LeavesFiles : Given → FilesState → FilesState → Type 0
LeavesFiles given before now = (now.holds ≡ before.holds) ⊎ (HoldsFirst given now ⊎ ((name : List ℕ) × WritesPart given name before now))

-- printing the output of a fresh run failed: some first part of it went out
pub record PrintsPart (given : Given) (before now : SinkState) : Type 0 where
  pub answer : Answer
  pub fresh : IsTheAnswer given answer
  pub part : SentPart before answer.output now

-- the whole output of a fresh run went out
pub record PrintsAll (given : Given) (before now : SinkState) : Type 0 where
  pub answer : Answer
  pub fresh : IsTheAnswer given answer
  pub all : now ≡ with_sent before answer.output

-- nothing went out, or a part, or all
abbrev pub PrintsSome : Given → SinkState → SinkState → Type 0
PrintsSome given before now = (now ≡ before) ⊎ (PrintsPart given before now ⊎ PrintsAll given before now)

-- the rules of the first kit listened at most as often as those of a fresh run
abbrev pub ListensAtMostAsFresh : Given → List ℕ → List ℕ → Type 0
ListensAtMostAsFresh given before now = (answer : Answer) → Fresh given answer → HeardAtMost answer.heard before now

-- at most so many steps were taken as a fresh run lints files
abbrev pub StepsAtMostAsFresh : Given → ℕ → ℕ → Type 0
StepsAtMostAsFresh given before now = (answer : Answer) → Fresh given answer → now ≤ before + answer.linted

-- the rules of the first kit listened as often as those of a fresh run
pub record ListensAsFresh (given : Given) (before now : List ℕ) : Type 0 where
  pub answer : Answer
  pub fresh : IsTheAnswer given answer
  pub listens : now ≡ first_heard answer.heard before

-- so many steps were taken as a fresh run lints files
pub record StepsAsFresh (given : Given) (before now : ℕ) : Type 0 where
  pub answer : Answer
  pub fresh : IsTheAnswer given answer
  pub steps : now ≡ before + answer.linted

-- no call failed
pub record HasNotFailed (before now : FilesState) : Type 0 where
  pub faults : now.faults ≡ before.faults
  pub failed : now.failed ≡ before.failed
