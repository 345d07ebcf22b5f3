-- How a run ends that made its report.
use Rattle.std.specs.Prelude.{◌≡◌, ℕ, ◌⊎◌, List, [], Bool, map, string_bytes}
use Rattle.es_files.specs.Outside.{FilesState, SentPart, SinkState, with_sent}
use Rattle.es_run.specs.declared.status.Status.{Status}
use Rattle.es_run.specs.declared.status.Status.TheVariants as status
use Rattle.es_run.specs.declared.status.StopCause.TheVariants as cause
use Rattle.es_run.specs.declared.reporting.Made.{Made}
use Rattle.es_run.specs.declared.reporting.Write.{Write}
use Rattle.es_run.specs.Runs.{IsTold}
use Rattle.es_run.specs.Stages.{IsHalf, WritesSome, done_status, with_written, write_in}
use Rattle.es_run.specs.Statuses.{fault_line}

-- the outside of a run: its files, its output and its standard error
pub record World : Type 0 where
  pub files : FilesState
  pub out : SinkState
  pub err : SinkState

abbrev pub world : FilesState → SinkState → SinkState → World
world files out err = record { files = files; out = out; err = err }

-- a run that came to its printing has its status, or printing failed, or it was out of memory
abbrev pub IsPrintStatus : Bool → Status → Type 0
IsPrintStatus clean result =
    (result ≡ done_status clean) ⊎ ((result ≡ status.Stopped cause.CannotPrint) ⊎ (result ≡ status.NoMemory))

-- it printed nothing, or all, or printing failed
abbrev pub PrintsSome : List ℕ → SinkState → SinkState → Type 0
PrintsSome text before now = (now ≡ before) ⊎ (SentPart before text now ⊎ (now ≡ with_sent before text))

-- how a run ends that made this, with the configuration of this name
pub data Ends (config : List ℕ) (made : Made) (before now : World) (result : Status) : Type 0 where
  done : result ≡ done_status made.clean → now.files ≡ with_written before.files (map write_in made.writes.items) →
      now.out ≡ with_sent before.out (string_bytes made.text) → IsTold before.err (string_bytes made.line) now.err →
      (string_bytes made.line ≡ [] → now.err ≡ before.err) → Ends config made before now result
  not_printed : result ≡ status.Stopped cause.CannotPrint →
      now.files ≡ with_written before.files (map write_in made.writes.items) →
      SentPart before.out (string_bytes made.text) now.out →
      IsTold before.err (fault_line config cause.CannotPrint) now.err → Ends config made before now result
  not_written : (half : Write) → result ≡ status.Stopped (cause.CannotWrite half.name) →
      IsHalf made.writes.items before.files half now.files → now.out ≡ before.out →
      IsTold before.err (fault_line config (cause.CannotWrite half.name)) now.err → Ends config made before now result
  no_memory : result ≡ status.NoMemory → WritesSome made.writes.items before.files now.files →
      PrintsSome (string_bytes made.text) before.out now.out → Ends config made before now result
