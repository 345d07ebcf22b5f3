-- What a run has to tell of what it gathered.
use Rattle.std.specs.Prelude.{◌≡◌, ℕ, ◌+◌, Bool, true, false, List, [], ◌∷◌, length, None}
use Rattle.std.specs.List.{filter}
use Rattle.es_text.specs.declared.finding.Severity.TheVariants.{Warn}
use Rattle.es_text.specs.Texts.{text_of}
use Rattle.es_settings.specs.declared.mode.Mode.{Mode}
use Rattle.es_host.specs.Meanings.{Meaning}
use Rattle.es_messages.specs.declared.message.FileResult.{FileResult}
use Rattle.es_messages.specs.declared.message.Message.{Message}
use Rattle.es_format.specs.Stylish.{Named}
use Rattle.es_lint.specs.Passes.{Fixed, Fixes, most_passes}
use Rattle.es_lint.specs.Results.{result_of}
use Rattle.es_run.specs.Gathering.{NamedPart, Part, source, left_out}

-- a warning without a rule, which stands at no place of the text
abbrev pub warning_of : List ℕ → Message
warning_of text = record {
  rule = None;
  severity = Warn;
  text = text;
  line = 0;
  column = 0;
  end_line = 0;
  end_column = 0;
  fix = None;
  fatal = false;
}

-- what is told of a file that isn't linted: that alone
abbrev pub left_out_result : List ℕ → FileResult
left_out_result text = record { messages = warning_of text ∷ []; suppressed = []; output = None }

abbrev pub is_source : NamedPart → Bool
is_source (name, source settings bytes) = true
is_source (name, left_out text) = false

-- how many files are linted
abbrev pub linted_count : List NamedPart → ℕ
linted_count parts = length (filter is_source parts)

module _ (meanings : List Meaning) (mode : Mode) where
  -- what a part comes to, and how often the rules listen for it
  abbrev pub ComesTo : Part → FileResult → ℕ → Type 0
  ComesTo (source settings bytes) result heard =
      (fixed : Fixed) × Fixes meanings settings mode (most_passes mode) (text_of bytes) fixed
      × (result ≡ result_of (text_of bytes).marked fixed) × (heard ≡ fixed.heard)
  ComesTo (left_out text) result heard = (result ≡ left_out_result text) × (heard ≡ 0)

  -- what all parts come to, each under its name and in their order
  abbrev pub ComeToAll : List NamedPart → List Named → ℕ → Type 0
  ComeToAll [] results heard = (results ≡ []) × (heard ≡ 0)
  ComeToAll (part ∷ parts) results heard =
      (result : FileResult) × (first : ℕ) × ComesTo part.1 result first
      × ((later : List Named) × (rest : ℕ) × ComeToAll parts later rest
      × (results ≡ (part.0, result) ∷ later) × (heard ≡ first + rest))
