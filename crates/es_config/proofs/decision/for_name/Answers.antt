use Rattle.std.proofs.Common.{◌≡◌, ◌∙◌, ap, subst, sym}
use Rattle.std.specs.Str.{chars}
use Rattle.es_config.specs.Configurations.{AreTakenSettings}
use Rattle.es_config.specs.Entries.{layers_of}
use Rattle.es_config.specs.Outcomes.{settings_for}
use Rattle.es_settings.specs.Settings.{Settings, settings_of}
use Rattle.es_config.proofs.TakenLemmas.{settings_taken}
use Rattle.es_config.proofs.decision.for_name.Goals as goal

pub returns-clause-taken : goal.returns-clause-taken
returns-clause-taken c =
    λ verdict without taken.
    let count = c.args.config.now.count in
    let layers = layers_of c.args.config.now.entries in
    let name = chars c.args.name.now in
    let is : settings_of c.in_ok-settings_for.field-0 ≡ settings_for count layers name =
    c.in_ok-settings_for.ensures
    ∙ ap (λ n. settings_for n (layers_of c.entries-entries.result.now) name) c.count.ensures
    ∙ ap (λ entries. settings_for count (layers_of entries) name) c.entries-entries.ensures
    in
    subst (λ (set : Settings). AreTakenSettings verdict count set.rules) (sym is) (settings_taken verdict count layers name without taken)
