-- The text that a run makes and lints, and what it tells of it.
use Rattle.std.specs.Prelude.{◌≡◌, ℕ, ◌==◌, true, List, [], ◌++◌, Some, codes, decimal, if◌then◌else◌, length, map, replicate, string_bytes, zero, suc}
use Rattle.es_text.specs.declared.finding.Severity.TheVariants.{Error, Warn}
use Rattle.es_text.specs.declared.token.SourceType.TheVariants.{Module}
use Rattle.es_settings.specs.declared.mode.Mode.TheVariants.{Report}
use Rattle.es_settings.specs.Settings.{Setting, Settings}
use Rattle.es_host.specs.Meanings.{Meaning}
use Rattle.es_messages.specs.declared.message.FileResult.{FileResult}
use Rattle.es_messages.specs.declared.message.Message.{Message}
use Rattle.es_format.specs.Stylish.{line_end}
use Rattle.es_run.specs.declared.reporting.Made.{Made}
use Rattle.es_run.specs.declared.status.Status.{Status}
use Rattle.es_run.specs.declared.status.Status.TheVariants.{Clean, Problems}
use Rattle.es_run.specs.Gathering.{Part, source}
use Rattle.es_run.specs.Stages.{IsLintedAs, done_status, write_in}

-- the line of this number, counted from 1
abbrev pub numbered_line : ℕ → List ℕ
numbered_line number =
    codes "function f" ++ (decimal number ++ (codes "(a) { for (;;) { if (a > " ++ (decimal number
    ++ (codes ") { return a; } a++; } debugger; }" ++ line_end))))

-- so many lines, in the order of their numbers
abbrev pub generated_text : ℕ → List ℕ
generated_text zero = []
generated_text (suc count) = generated_text count ++ numbered_line (suc count)

-- a rule at error, without options
abbrev pub at_error : Setting
at_error = record { severity = Some Error; options = [] }

-- a module, with so many rules at error and for all else ESLint's defaults
abbrev pub all_at_error : ℕ → Settings
all_at_error count = record {
  source_type = Module;
  globals = [];
  inline = true;
  unused = Some Warn;
  rules = replicate count at_error;
}

-- a text under what is set for it, where the kit has so many rules
abbrev pub set_text : ℕ → List ℕ → Part
set_text rules text = source (all_at_error rules) text

-- what is printed, by the counts of lines, bytes and messages
abbrev pub counts_line : ℕ → ℕ → ℕ → List ℕ
counts_line count bytes problems =
    codes "generated " ++ (decimal count ++ (codes ": " ++ (decimal bytes
    ++ (codes " bytes, " ++ (decimal problems ++ (codes " problems" ++ line_end))))))

-- what is printed, where these messages are told of a text of so many lines
abbrev pub generated_line : ℕ → List Message → List ℕ
generated_line count messages = counts_line count (length (generated_text count)) (length messages)

abbrev pub generated_status : List Message → Status
generated_status messages = if length messages == 0 then Clean else Problems

-- a run made this of a generated text: it linted the text, and has nothing to write, nor a line on standard error
pub record IsReportOnText (meanings : List Meaning) (count before now : ℕ) (made : Made) : Type 0 where
  pub told : FileResult
  pub linted : IsLintedAs meanings Report (set_text (length meanings) (generated_text count)) before told now
  pub text : string_bytes made.text ≡ generated_line count told.messages
  pub clean : done_status made.clean ≡ generated_status told.messages
  pub line : string_bytes made.line ≡ []
  pub writes : map write_in made.writes.items ≡ []
