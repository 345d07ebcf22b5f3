-- What the stages of linting answer.
use Rattle.std.specs.Prelude.{◌≡◌, ℕ, zero, suc, ◌⊎◌, Bool, true, false, List, Some, if◌then◌else◌}
use Rattle.es_text.specs.declared.finding.Report.{Report}
use Rattle.es_parser.specs.declared.parser.ParseFault.{ParseFault}
use Rattle.es_host.specs.Spans.{fixes_fit, reports_fit}
use Rattle.es_text.specs.Texts.{Text}
use Rattle.es_settings.specs.declared.mode.Mode.{Mode}
use Rattle.es_settings.specs.Settings.{Settings}
use Rattle.es_host.specs.Meanings.{Meaning}
use Rattle.es_lint.specs.declared.linting.Found.{Found}
use Rattle.es_lint.specs.declared.passes.Passed.{Passed}
use Rattle.es_lint.specs.Fatal.{fault_fatal}
use Rattle.es_lint.specs.Lintings.{Linting, fatal_linting}
use Rattle.es_lint.specs.Passes.{AreTheFixes, Fixed, fixes_in, takes_one}
use Rattle.es_lint.specs.Results.{more}

-- once or never
abbrev pub times : Bool → ℕ
times once = if once then 1 else 0

abbrev pub linting_of : Found → Linting
linting_of found =
    record { stand = found.stand.items; suppressed = found.suppressed.items; heard = times found.heard }

-- all reports lie in the text, and their fixes
pub record LiesWithin (bytes : List ℕ) (found : Found) : Type 0 where
  pub stand : reports_fit bytes found.stand.items ≡ true
  pub stand_fixes : fixes_fit bytes found.stand.items ≡ true
  pub suppressed : reports_fit bytes found.suppressed.items ≡ true
  pub suppressed_fixes : fixes_fit bytes found.suppressed.items ≡ true

-- what linting a text gives that isn't parsed for this fault
pub record IsUnparsed (fault : ParseFault) (linting : Linting) : Type 0 where
  pub fatal : Report
  pub told : fault_fatal fault ≡ Some fatal
  pub one : linting ≡ fatal_linting fatal

-- a kit listened once at most
abbrev pub AtMostOnce : ℕ → ℕ → Type 0
AtMostOnce before now = (now ≡ before) ⊎ (now ≡ more 1 before)

-- whether there is one more pass that takes a fix, where so many are left
abbrev pub goes_on : Mode → ℕ → List ℕ → List Report → Bool
goes_on mode zero bytes reports = false
goes_on mode (suc left) bytes reports = takes_one bytes (fixes_in mode reports)

-- what passes gave, where the rules listened so often
abbrev pub fixed_of : Passed → ℕ → Fixed
fixed_of passed heard =
    record { text = passed.source; linting = linting_of passed.found; changed = passed.changed; heard = heard }

-- so many passes at most give this of the text and nothing else, and the kit's count of lints goes up
pub record IsPassed (meanings : List Meaning) (settings : Settings) (mode : Mode) (left : ℕ) (text : Text) (before : ℕ) (passed : Passed) (now : ℕ) : Type 0 where
  pub heard : ℕ
  pub gives : AreTheFixes meanings settings mode left text (fixed_of passed heard)
  pub lints : now ≡ more heard before
