-- What linting the bytes of a file gives.
use Rattle.std.specs.Prelude.{◌≡◌, ℕ, zero, suc, ◌+◌, ◌-◌, ◌^◌, ◌≤◌, Bool, min, List, ◌∷◌, Option, None, Some, map, if◌then◌else◌}
use Rattle.es_text.specs.Texts.{Text, byte_order_mark, text_of}
use Rattle.es_settings.specs.declared.mode.Mode.{Mode}
use Rattle.es_settings.specs.Settings.{Settings}
use Rattle.es_host.specs.Meanings.{Meaning}
use Rattle.es_messages.specs.declared.message.FileResult.{FileResult}
use Rattle.es_lint.specs.Lintings.{Linting}
use Rattle.es_lint.specs.Messages.{message_of}
use Rattle.es_lint.specs.Passes.{AreTheFixes, Fixed, Fixes, most_passes}

-- ---- what is told

-- what is told of a text, of which linting gives this
abbrev pub told_of : Text → Linting → FileResult
told_of text linting = record {
  messages = map (message_of text.characters) linting.stand;
  suppressed = map (message_of text.characters) linting.suppressed;
  output = None;
}

-- with a byte order mark in front, where the file had it
abbrev pub with_mark : Bool → List ℕ → List ℕ
with_mark marked characters = if marked then byte_order_mark ∷ characters else characters

-- the last text, where a fix was taken
abbrev pub output_of : Bool → Fixed → Option (List ℕ)
output_of marked fixed = if fixed.changed then Some (with_mark marked fixed.text.characters) else None

-- what is told of a file, of whose text passes give this, and in front of which a mark stood or didn't
abbrev pub result_of : Bool → Fixed → FileResult
result_of marked fixed = record (told_of fixed.text fixed.linting) { output = output_of marked fixed }

-- ---- how often the rules listen

-- so many more, up to the last value of a count
abbrev pub more : ℕ → ℕ → ℕ
more zero count = count
more (suc times) count = min (count + suc times) (2 ^ 64 - 1)

-- a kit's count of lints goes up by so many at most
pub record AtMost (times before now : ℕ) : Type 0 where
  pub heard : ℕ
  pub few : heard ≤ times
  pub lints : now ≡ more heard before

-- ---- both

-- What linting these bytes gives in this mode, with these rules and this set; their kit's count of lints goes up by
-- the number of times that the rules listened.
pub record IsLinted (meanings : List Meaning) (settings : Settings) (mode : Mode) (bytes : List ℕ) (before : ℕ) (result : FileResult) (now : ℕ) : Type 0 where
  pub fixed : Fixed
  pub gives : AreTheFixes meanings settings mode (most_passes mode) (text_of bytes) fixed
  pub told : result ≡ result_of (text_of bytes).marked fixed
  pub lints : now ≡ more fixed.heard before

-- the rules listen at most as often as the passes over these bytes have texts that are parsed
abbrev pub ListensAtMost : List Meaning → Settings → Mode → List ℕ → ℕ → ℕ → Type 0
ListensAtMost meanings settings mode bytes before now =
    (fixed : Fixed) → Fixes meanings settings mode (most_passes mode) (text_of bytes) fixed → AtMost fixed.heard before now
