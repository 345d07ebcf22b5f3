use Rattle.std.proofs.Common.{◌∙◌, ap, refl}
use Rattle.std.specs.Prelude.{codes, true, None}
use Rattle.es_config.specs.Configurations.{front}
use Rattle.es_config.proofs.ConfigurationsLemmas.{two_globs}
use Rattle.es_config.proofs.config.ignored_at_first.Goals as goal

pub returns : goal.returns
returns c =
    c.front.ensures
    ∙ ap (λ ignores. front None ignores true None)
    (two_globs (codes "**/node_modules/") (codes ".git/") _ _ _ refl refl c.new-ignores.ensures c.in_ok-add_glob.ensures c.in_ok-add_glob-2.ensures)
