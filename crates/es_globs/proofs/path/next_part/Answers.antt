use Rattle.std.proofs.Common.{◌∙◌, ◌∷◌, ap, sym}
use Rattle.std.specs.Str.{chars}
use Rattle.es_globs.specs.Parts.{parts_in}
use Rattle.es_globs.specs.Patterns.{parts_left, up_to_slash}
use Rattle.es_globs.proofs.PartsLemmas.{first_part}
use Rattle.es_globs.proofs.path.next_part.Goals as goal

pub returns-clause-some : goal.returns-clause-some
returns-clause-some c =
    ap parts_in c.in_ok-text.was ∙ first_part (chars c.in_ok-text.text.now)
    ∙ ap (λ o. up_to_slash (chars c.in_ok-text.text.now) ∷ parts_left o) (sym c.behind_slash.ensures.value)
