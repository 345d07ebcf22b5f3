-- What is gathered of a name, by what is decided for it.
use Rattle.std.proofs.Common.{◌≡◌, ◌∙◌, ℕ, Bool, List, ap, subst, sym}
use Rattle.std.specs.Str.{chars}
use Rattle.es_settings.specs.declared.file_config.FileConfig.{FileConfig}
use Rattle.es_settings.specs.Settings.{settings_of}
use Rattle.es_config.specs.declared.decision.Decision.{Decision}
use Rattle.es_config.specs.declared.decision.Decision.TheVariants as decision
use Rattle.es_config.specs.Configurations.{Configuration}
use Rattle.es_config.specs.Outcomes.{KeepsTaken, linted, outcome_in, outcome_of}
use Rattle.es_files.specs.Outside.{Held}
use Rattle.es_run.specs.Gathering.{part_of}

-- a name by its bytes
pub part_when : (inline : Bool) (config : Configuration) (held : Held) (before : ℕ) (bytes name : List ℕ) (decided found : Decision) →
    chars bytes ≡ name → outcome_of decided ≡ outcome_in config (chars bytes) → decided ≡ found →
    part_of inline held before name (outcome_in config name) ≡ part_of inline held before name (outcome_of found)
part_when inline config held before bytes name decided found same decides is =
    ap (part_of inline held before name) (ap (outcome_in config) (sym same) ∙ sym decides ∙ ap outcome_of is)

-- what is set for a file that is linted is what the rules take
pub set_taken : (config : Configuration) (decided : Decision) (set : FileConfig) → decided ≡ decision.Lint set →
    KeepsTaken config (outcome_of decided) → KeepsTaken config (linted (settings_of set))
set_taken config decided set is taken = subst (λ d. KeepsTaken config (outcome_of d)) is taken
