-- What entries set for a file, laid over each other. ESLint's guide, "Configuration files", "Cascading configuration
-- objects", "Rule severities and options".
use Rattle.std.specs.Prelude.{ℕ, true, List, [], ◌∷◌, ◌++◌, None, Some, replicate, slice_index_or, slice_set, unwrap_or}
use Rattle.es_text.specs.declared.finding.Severity.TheVariants.{Warn}
use Rattle.es_text.specs.declared.token.SourceType.TheVariants.{Module}
use Rattle.es_config.specs.Entries.{Change, Layer}
use Rattle.es_settings.specs.Globals.{last_of_each}
use Rattle.es_settings.specs.Settings.{Setting, Settings, unset}

-- with so many rules, where no entry sets anything
abbrev pub defaults : ℕ → Settings
defaults count = record {
  source_type = Module;
  globals = [];
  inline = true;
  unused = Some Warn;
  rules = replicate count unset;
}

-- a severity alone keeps earlier options
abbrev pub changed : Setting → Change → Setting
changed setting change = record { severity = change.severity; options = unwrap_or change.options setting.options }

-- a change is one of the rule at its place
abbrev pub with_change : List Setting → Change → List Setting
with_change rules change = slice_set rules change.place (changed (slice_index_or rules change.place unset) change)

abbrev pub with_changes : List Setting → List Change → List Setting
with_changes rules [] = rules
with_changes rules (change ∷ changes) = with_changes (with_change rules change) changes

-- what is set with one more entry, which goes behind in what is said of global variables
abbrev pub laid : Settings → Layer → Settings
laid set layer = record {
  source_type = unwrap_or layer.source_type set.source_type;
  globals = set.globals ++ layer.globals;
  inline = unwrap_or layer.inline set.inline;
  unused = unwrap_or layer.unused set.unused;
  rules = with_changes set.rules layer.rules;
}

abbrev pub all_laid : Settings → List Layer → Settings
all_laid set [] = set
all_laid set (layer ∷ layers) = all_laid (laid set layer) layers

-- of each name what was said last counts
abbrev pub settled : Settings → Settings
settled set = record set { globals = last_of_each set.globals }

-- what entries set in their order
abbrev pub settings_under : ℕ → List Layer → Settings
settings_under count layers = settled (all_laid (defaults count) layers)
