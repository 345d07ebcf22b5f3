-- What a configuration decides for a file. ESLint's guide, "Configuration files".
use Rattle.std.specs.Prelude.{ℕ, List, if◌then◌else◌}
use Rattle.std.specs.List.{filter}
use Rattle.es_config.specs.declared.decision.Decision.{Decision}
use Rattle.es_config.specs.declared.decision.Decision.TheVariants as decision
use Rattle.es_settings.specs.declared.verdict.Verdict.{Verdict}
use Rattle.es_config.specs.Configurations.{AreTakenChanges, AreTakenSettings, Configuration}
use Rattle.es_config.specs.Entries.{Layer, layers_of}
use Rattle.es_config.specs.Laying.{settings_under}
use Rattle.es_settings.specs.Rules.{DoWithoutOptions}
use Rattle.es_settings.specs.Settings.{Options, Settings, settings_of}
use Rattle.es_config.specs.Standing.{is_for, is_ignored, is_outside, is_taken}

-- what becomes of a file
pub data Outcome : Type 0 where
  linted : Settings → Outcome
  ignored : Outcome
  unmatched : Outcome
  outside : Outcome

abbrev pub outcome_of : Decision → Outcome
outcome_of (decision.Lint config) = linted (settings_of config)
outcome_of decision.Ignored = ignored
outcome_of decision.Unmatched = unmatched
outcome_of decision.Outside = outside

-- what is set for a file with this name
abbrev pub settings_for : ℕ → List Layer → List ℕ → Settings
settings_for count layers name = settings_under count (filter (is_for name) layers)

-- what entries decide for it, where there are so many rules
abbrev pub outcome_for : ℕ → List Layer → List ℕ → Outcome
outcome_for count layers name =
    if is_outside name then outside
    else if is_ignored name layers then ignored
    else if is_taken name layers then linted (settings_for count layers name)
    else unmatched

abbrev pub outcome_in : Configuration → List ℕ → Outcome
outcome_in config name = outcome_for config.count (layers_of config.entries) name

-- where rules take what the configuration changes, and can do without options, they take what is set for a file
abbrev pub IsTakenOutcome : (ℕ → Options → Verdict) → ℕ → Outcome → Type 0
IsTakenOutcome verdict count (linted set) = AreTakenSettings verdict count set.rules
IsTakenOutcome verdict count ignored = Unit {0}
IsTakenOutcome verdict count unmatched = Unit {0}
IsTakenOutcome verdict count outside = Unit {0}

abbrev pub KeepsTaken : Configuration → Outcome → Type 0
KeepsTaken config outcome =
    (verdict : ℕ → Options → Verdict) → DoWithoutOptions verdict config.count
    → AreTakenChanges verdict config.count (layers_of config.entries) → IsTakenOutcome verdict config.count outcome
