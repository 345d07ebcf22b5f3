use Rattle.std.proofs.Common.{[], ◌∷◌, ◌∙◌, ap, refl}
use Rattle.std.specs.Prelude.{codes, false, Some}
use Rattle.es_text.specs.declared.token.SourceType.TheVariants.{Commonjs}
use Rattle.es_config.specs.Configurations.{any_of, front}
use Rattle.es_config.proofs.ConfigurationsLemmas.{first_choice}
use Rattle.es_config.proofs.config.commonjs_at_first.Goals as goal

pub returns : goal.returns
returns c =
    c.front.ensures
    ∙ ap (λ files. front (Some files) c.new.result false (Some Commonjs))
    (first_choice (codes "**/*.cjs") _ _ refl c.new-files.ensures c.in_ok-add_choice.ensures)
    ∙ ap (λ ignores. front (Some (any_of (codes "**/*.cjs" ∷ []))) ignores false (Some Commonjs)) c.new.ensures
