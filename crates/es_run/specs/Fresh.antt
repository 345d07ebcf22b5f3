-- A fresh run: the order of work, for any held files. What is written, printed, told and answered, by what the rules
-- mean, by the words and by what is held.
-- Nothing here knows of a fault of the outside, nor of being out of memory.
use Rattle.std.specs.Prelude.{◌≡◌, ℕ, List, [], ◌++◌, length, map, None, Result, Ok, Err, encode_utf8_all}
use Rattle.std.specs.FinMap as finite
use Rattle.es_plan.specs.declared.plan.LintPlan.{LintPlan}
use Rattle.es_plan.specs.declared.plan.Plan.TheVariants.{Generate, Lint}
use Rattle.es_plan.specs.declared.plan.PlanFault.TheVariants as fault
use Rattle.es_plan.specs.Plans.{plan_of}
use Rattle.es_settings.specs.declared.mode.Mode.TheVariants.{Report}
use Rattle.es_host.specs.Meanings.{Meaning, meaning_at}
use Rattle.es_config.specs.declared.fault.FaultKind.{FaultKind}
use Rattle.es_config.specs.Configurations.{built_in}
use Rattle.es_config.specs.Entries.{Layer}
use Rattle.es_config.specs.Outcomes.{Outcome, outcome_for}
use Rattle.es_config.specs.Reading.{ComeTo, KnownRules, known}
use Rattle.es_config.specs.Walks.{faulty, good}
use Rattle.es_files.specs.Outside.{Held, HoldsMore}
use Rattle.es_format.specs.Stylish.{Named, all_messages}
use Rattle.es_messages.specs.declared.message.FileResult.{FileResult}
use Rattle.es_run.specs.declared.status.Status.{Status}
use Rattle.es_run.specs.declared.status.Status.TheVariants.{Stopped}
use Rattle.es_run.specs.declared.status.StopCause.{StopCause}
use Rattle.es_run.specs.declared.status.StopCause.TheVariants.{BadConfig, BadWords, ConfigMissing, TooLong, TooMany}
use Rattle.es_run.specs.Gathering.{HoldsConfig, NamedPart, Part, gathered, most_config_bytes, source}
use Rattle.es_run.specs.Generated.{all_at_error, generated_line, generated_status, generated_text}
use Rattle.es_run.specs.Linting.{ComeToAll, ComesTo, linted_count}
use Rattle.es_run.specs.Reporting.{Writing, line_of, report_of, status_of, writes_of}
use Rattle.es_run.specs.Statuses.{fault_line}

-- what a run is given: what the rules mean, the words, and what is held
pub record Given : Type 0 where
  pub meanings : List Meaning
  pub words : List (List ℕ)
  pub held : Held

-- what a run of a plan is given
pub record Planned : Type 0 where
  pub meanings : List Meaning
  pub plan : LintPlan
  pub held : Held

abbrev pub planned : Given → LintPlan → Planned
planned given plan = record { meanings = given.meanings; plan = plan; held = given.held }

-- what a run gives: its status, the files that it writes, one after the other, its output, its line on standard
-- error, how many files it lints, and how often its rules listened
pub record Answer : Type 0 where
  pub status : Status
  pub writes : List Writing
  pub output : List ℕ
  pub line : List ℕ
  pub linted : ℕ
  pub heard : ℕ

-- the answer of a run, with the configuration of this name, that stops: nothing is written, printed or linted, and the
-- line is that of the cause
abbrev pub stopped : List ℕ → StopCause → Answer
stopped config cause = record {
  status = Stopped cause;
  writes = [];
  output = [];
  line = fault_line config cause;
  linted = 0;
  heard = 0;
}

-- the answer of a run that tells this of so many linted files, for which the rules listened so often
abbrev pub reported : LintPlan → ℕ → List Named → ℕ → Answer
reported plan linted results heard = record {
  status = status_of plan.max_warnings (all_messages results);
  writes = writes_of results;
  output = report_of plan.json plan.quiet results;
  line = line_of plan.max_warnings (all_messages results);
  linted = linted;
  heard = heard;
}

-- the rules that a configuration may name
abbrev pub rules_of : List Meaning → KnownRules
rules_of meanings =
    known (map (λ (meaning : Meaning). meaning.id) meanings) (λ place options. (meaning_at meanings place).verdict options)

-- ---- a run of a plan

-- these bytes are the configuration
abbrev pub IsConfig : Planned → List ℕ → Type 0
IsConfig given bytes = HoldsConfig given.held given.plan.config bytes

-- it is read as these entries
pub record IsSet (given : Planned) (entries : List Layer) : Type 0 where
  pub bytes : List ℕ
  pub config : IsConfig given bytes
  pub read : ComeTo (rules_of given.meanings) bytes (good entries)

-- what entries decide for a name, behind those that stand in front of each configuration's own
abbrev pub decided : Planned → List Layer → List ℕ → Outcome
decided given entries name = outcome_for (length given.meanings) (built_in ++ entries) name

-- what is gathered under these entries of the names of the plan
abbrev pub gathered_under : Planned → List Layer → Result (List NamedPart) StopCause
gathered_under given entries = gathered given.plan.inline (decided given entries) given.held 0 given.plan.names

-- the answer of a fresh run of a plan, in the order of its work
pub data FreshPlan (given : Planned) (answer : Answer) : Type 0 where
  no_config : finite.get given.held (encode_utf8_all given.plan.config) ≡ None →
      answer ≡ stopped given.plan.config ConfigMissing → FreshPlan given answer
  long_config : HoldsMore given.held (encode_utf8_all given.plan.config) most_config_bytes →
      answer ≡ stopped given.plan.config (TooLong given.plan.config) → FreshPlan given answer
  bad_config : (bytes : List ℕ) (kind : FaultKind) (pointer : List ℕ) → IsConfig given bytes →
      ComeTo (rules_of given.meanings) bytes (faulty kind pointer) →
      answer ≡ stopped given.plan.config (BadConfig kind pointer) → FreshPlan given answer
  refused : (entries : List Layer) (cause : StopCause) → IsSet given entries → gathered_under given entries ≡ Err cause →
      answer ≡ stopped given.plan.config cause → FreshPlan given answer
  done : (entries : List Layer) (parts : List NamedPart) (results : List Named) (heard : ℕ) → IsSet given entries →
      gathered_under given entries ≡ Ok parts → ComeToAll given.meanings given.plan.mode parts results heard →
      answer ≡ reported given.plan (linted_count parts) results heard → FreshPlan given answer

-- ---- a run with `--generate`

-- the text of so many lines, with each rule at error
abbrev pub generated_part : List Meaning → ℕ → Part
generated_part meanings count = source (all_at_error (length meanings)) (generated_text count)

-- the answer of a run that tells this of a generated text, for which the rules listened so often
abbrev pub told_of_text : ℕ → FileResult → ℕ → Answer
told_of_text count told heard = record {
  status = generated_status told.messages;
  writes = [];
  output = generated_line count told.messages;
  line = [];
  linted = 1;
  heard = heard;
}

-- ---- a run

-- the answer of a fresh run
pub data Fresh (given : Given) (answer : Answer) : Type 0 where
  bad_words : plan_of given.words ≡ Err fault.BadWords → answer ≡ stopped [] BadWords → Fresh given answer
  too_many : (names : ℕ) → plan_of given.words ≡ Err (fault.TooMany names) → answer ≡ stopped [] (TooMany names) →
      Fresh given answer
  of_plan : (plan : LintPlan) → plan_of given.words ≡ Ok (Lint plan) → FreshPlan (planned given plan) answer →
      Fresh given answer
  of_text : (count : ℕ) (told : FileResult) (heard : ℕ) → plan_of given.words ≡ Ok (Generate count) →
      ComesTo given.meanings Report (generated_part given.meanings count) told heard →
      answer ≡ told_of_text count told heard → Fresh given answer

-- a fresh run gives this answer and no other
pub record IsTheAnswer (given : Given) (answer : Answer) : Type 0 where
  pub gives : Fresh given answer
  pub only : (other : Answer) → Fresh given other → other ≡ answer
