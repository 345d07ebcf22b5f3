-- The entries of a configuration, with options as the JSON values that they hold. ESLint's guide, "Configuration files".
use Rattle.std.specs.Prelude.{ℕ, Bool, List, Option, map, option_map}
use Rattle.es_text.specs.declared.finding.Severity.{Severity}
use Rattle.es_text.specs.declared.token.SourceType.{SourceType}
use Rattle.es_globs.specs.Globs.{Patterns}
use Rattle.es_config.specs.declared.entry.Entry.{Entry}
use Rattle.es_config.specs.declared.entry.RuleChange.{RuleChange}
use Rattle.es_settings.specs.declared.global_use.GlobalUse.{GlobalUse}
use Rattle.es_settings.specs.Settings.{Options, options_of}

-- what an entry sets for the rule at a place; without options it leaves those that were set
pub record Change : Type 0 where
  pub place : ℕ
  pub severity : Option Severity
  pub options : Option Options

abbrev pub change_of : RuleChange → Change
change_of change = record { place = change.place; severity = change.severity; options = option_map options_of change.options }

-- an entry: which files it is for, and what it sets for them
pub record Layer : Type 0 where
  pub files : Option (List (List Patterns))
  pub ignores : List Patterns
  pub alone : Bool
  pub source_type : Option SourceType
  pub globals : List (List ℕ × GlobalUse)
  pub inline : Option Bool
  pub unused : Option (Option Severity)
  pub rules : List Change

abbrev pub layer_of : Entry → Layer
layer_of entry = record {
  files = entry.files;
  ignores = entry.ignores;
  alone = entry.alone;
  source_type = entry.source_type;
  globals = entry.globals;
  inline = entry.inline;
  unused = entry.unused;
  rules = map change_of entry.rules;
}

abbrev pub layers_of : List Entry → List Layer
layers_of entries = map layer_of entries
