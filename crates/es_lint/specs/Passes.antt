-- Passes of fixes over a text. ESLint's guide, "Applying fixes": passes go on while one takes a fix, ten at most, and
-- what is told is what linting gives of the last text.
use Rattle.std.specs.Prelude.{◌≡◌, ℕ, zero, suc, ◌+◌, Bool, true, false, List, [], ◌∷◌, length, Option, None, nat_le, if◌then◌else◌}
use Rattle.std.specs.List.{enumerate_from, filter_map}
use Rattle.std.specs.Str.{chars}
use Rattle.es_text.specs.SourceFaults.{most_bytes}
use Rattle.es_text.specs.Texts.{Text, text_bytes}
use Rattle.es_text.specs.declared.finding.Fix.{Fix}
use Rattle.es_text.specs.declared.finding.Report.{Report}
use Rattle.es_text.specs.declared.finding.Severity.{Severity}
use Rattle.es_text.specs.declared.finding.Severity.TheVariants.{Error, Warn}
use Rattle.es_settings.specs.declared.mode.Mode.{Mode}
use Rattle.es_settings.specs.declared.mode.Mode.TheVariants as mode
use Rattle.es_settings.specs.Settings.{Settings}
use Rattle.es_host.specs.Meanings.{Meaning}
use Rattle.es_settings.specs.Sorting.{in_order}
use Rattle.es_messages.specs.Fixes.{goes_before, replaced, taken_of}
use Rattle.es_lint.specs.Lintings.{Linting, Lints}

-- ---- one pass

-- whether a pass may take the fix of a report of this severity
abbrev pub may_take : Mode → Severity → Bool
may_take mode.Report severity = false
may_take mode.FixAll severity = true
may_take mode.FixErrors Error = true
may_take mode.FixErrors Warn = false

abbrev pub fix_in : Mode → Report → Option Fix
fix_in mode report = if may_take mode report.severity then report.fix else None

abbrev pub fixes_in : Mode → List Report → List Fix
fixes_in mode reports = filter_map (fix_in mode) reports

-- the bytes of the text with those replaced that a pass of these takes
abbrev pub made : List ℕ → List Fix → List ℕ
made bytes fixes = replaced bytes 0 (taken_of (in_order goes_before (enumerate_from 0 fixes)))

-- A pass takes the first fix, if there is one; where the text would be too long, it isn't made
abbrev pub takes_one : List ℕ → List Fix → Bool
takes_one bytes [] = false
takes_one bytes (fix ∷ fixes) = nat_le (length (made bytes (fix ∷ fixes))) most_bytes

-- the text after a pass, in front of which no mark stands
abbrev pub after : List ℕ → List Fix → Text
after bytes fixes = record { characters = chars (made bytes fixes); marked = false }

-- ---- all passes

-- how many passes there are at most
abbrev pub most_passes : Mode → ℕ
most_passes mode.Report = 0
most_passes mode.FixAll = 10
most_passes mode.FixErrors = 10

-- what passes give: the last text, what linting gives of it, whether a fix was taken, and how often the rules
-- listened
pub record Fixed : Type 0 where
  pub text : Text
  pub linting : Linting
  pub changed : Bool
  pub heard : ℕ

-- no pass takes a fix
abbrev pub ended : Text → Linting → Fixed
ended text linting = record { text = text; linting = linting; changed = false; heard = linting.heard }

-- a pass takes one, and then this is what the later ones give
abbrev pub changed_by : Linting → Fixed → Fixed
changed_by linting later = record later { changed = true; heard = linting.heard + later.heard }

-- of a text, of which linting gives this: a pass takes a fix or it doesn't, and then these are the later ones
abbrev pub GoesOn : Bool → (Fixed → Type 0) → Text → Linting → Fixed → Type 0
GoesOn false Later text linting fixed = fixed ≡ ended text linting
GoesOn true Later text linting fixed = (later : Fixed) × (Later later × (fixed ≡ changed_by linting later))

module _ (meanings : List Meaning) (settings : Settings) (mode : Mode) where
  -- what so many passes at most give of the text; without a pass it is linted all the same
  abbrev pub Fixes : ℕ → Text → Fixed → Type 0
  Fixes zero text fixed =
      (linting : Linting) × (Lints meanings settings text linting × (fixed ≡ ended text linting))
  Fixes (suc left) text fixed =
      (linting : Linting) × (Lints meanings settings text linting
      × GoesOn (takes_one (text_bytes text) (fixes_in mode linting.stand))
      (Fixes left (after (text_bytes text) (fixes_in mode linting.stand))) text linting fixed)

  -- they give this and nothing else
  pub record AreTheFixes (left : ℕ) (text : Text) (fixed : Fixed) : Type 0 where
    pub gives : Fixes left text fixed
    pub only : (other : Fixed) → Fixes left text other → other ≡ fixed
