-- What is set for a file, with options as the JSON values that they hold.
use Rattle.std.specs.Prelude.{ℕ, Bool, List, [], None, Option, map}
use Rattle.std.specs.List.{list_any}
use Rattle.serde_json.specs.Data.{Data}
use Rattle.serde_json.specs.View.{view}
use Rattle.serde_json.specs.Written.{has_float}
use Rattle.serde_json.specs.declared.value.Value.{Value}
use Rattle.es_text.specs.declared.finding.Severity.{Severity}
use Rattle.es_text.specs.declared.token.SourceType.{SourceType}
use Rattle.es_settings.specs.declared.file_config.FileConfig.{FileConfig}
use Rattle.es_settings.specs.declared.file_config.RuleSetting.{RuleSetting}
use Rattle.es_settings.specs.declared.global_use.GlobalUse.{GlobalUse}

-- the options of a rule
abbrev pub Options : Type 0
Options = List Data

abbrev pub options_of : List Value → Options
options_of values = map view values

-- a floating-point number stands in one of them
abbrev pub have_float : Options → Bool
have_float options = list_any has_float options

-- what is set for a rule, which is off without a severity
pub record Setting : Type 0 where
  pub severity : Option Severity
  pub options : Options

-- off, and without options
abbrev pub unset : Setting
unset = record { severity = None; options = [] }

abbrev pub setting_of : RuleSetting → Setting
setting_of setting = record { severity = setting.severity; options = options_of setting.options }

-- what is set for a file
pub record Settings : Type 0 where
  pub source_type : SourceType
  pub globals : List (List ℕ × GlobalUse)
  pub inline : Bool
  pub unused : Option Severity
  pub rules : List Setting

abbrev pub settings_of : FileConfig → Settings
settings_of config = record {
  source_type = config.source_type;
  globals = config.globals;
  inline = config.inline;
  unused = config.unused;
  rules = map setting_of config.rules;
}
