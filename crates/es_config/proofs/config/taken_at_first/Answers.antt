use Rattle.std.proofs.Common.{[], ◌∷◌, ◌∙◌, ap, refl}
use Rattle.std.specs.Prelude.{codes, false, Some, None}
use Rattle.es_config.specs.Configurations.{any_of, front}
use Rattle.es_config.proofs.ConfigurationsLemmas.{three_choices}
use Rattle.es_config.proofs.config.taken_at_first.Goals as goal

pub returns : goal.returns
returns c =
    c.front.ensures
    ∙ ap (λ files. front (Some files) c.new.result false None)
    (three_choices (codes "**/*.js") (codes "**/*.mjs") (codes "**/*.cjs") _ _ _ _ refl refl refl c.new-files.ensures
    c.in_ok-add_choice.ensures c.in_ok-add_choice-2.ensures c.in_ok-add_choice-3.ensures)
    ∙ ap (λ ignores. front (Some (any_of (codes "**/*.js" ∷ codes "**/*.mjs" ∷ codes "**/*.cjs" ∷ []))) ignores false None) c.new.ensures
