-- What a rule means.
use Rattle.std.specs.Prelude.{◌≡◌, ℕ, ◌<◌, Bool, true, false, List, [], length, Option, Some, None, slice_get, unwrap_or}
use Rattle.es_text.specs.declared.finding.Finding.{Finding}
use Rattle.es_selectors.specs.declared.selector.Spelling.{Spelling}
use Rattle.es_settings.specs.declared.verdict.Verdict.{Verdict}
use Rattle.es_settings.specs.declared.verdict.Verdict.TheVariants.{Fine}
use Rattle.es_settings.specs.Settings.{unset}
use Rattle.es_settings.specs.Settings.{Options, Setting}
use Rattle.es_host.specs.Files.{File}

-- A rule is told of a node that a selector of its interest matches, by the selector's index; whether the walk
-- enters the node or leaves it, the selector says. The ancestors are the nodes from the Program down to the
-- node's parent.
pub record Event : Type 0 where
  pub node : ℕ
  pub which : ℕ
  pub ancestors : List ℕ

pub record Meaning : Type 0 where
  -- the characters of its id
  pub id : List ℕ
  -- what it has to say of options for it
  pub verdict : Options → Verdict
  -- the selectors of the nodes that it asks for
  pub interest : Options → List Spelling
  -- what it finds in a file
  pub says : File → Options → List Finding

-- a rule that asks for nothing and says nothing
abbrev pub silence : Meaning
silence = record { id = []; verdict = λ _. Fine; interest = λ _. []; says = λ _ _. [] }

-- what the rule at this place of a kit means
abbrev pub meaning_at : List Meaning → ℕ → Meaning
meaning_at meanings place = unwrap_or (slice_get meanings place) silence

-- what is set for the rule at this place
abbrev pub setting_at : File → ℕ → Setting
setting_at file place = unwrap_or (slice_get file.settings.rules place) unset

abbrev pub is_on : Setting → Bool
is_on setting = has_severity setting.severity
  where
    has_severity : {S : Type 0} → Option S → Bool
    has_severity None = false
    has_severity (Some severity) = true

abbrev pub options_at : File → ℕ → Options
options_at file place = (setting_at file place).options

-- the interest of the rule at this place under its options
abbrev pub interest_at : List Meaning → File → ℕ → List Spelling
interest_at meanings file place = (meaning_at meanings place).interest (options_at file place)

-- one setting is there for each rule, which takes its options
pub record Fits (meanings : List Meaning) (file : File) : Type 0 where
  pub count : length file.settings.rules ≡ length meanings
  pub fine : (place : ℕ) → place < length meanings → (meaning_at meanings place).verdict (options_at file place) ≡ Fine
