use Rattle.std.proofs.Common.{◌≡◌, ◌∙◌, ap, subst, codes}
use Rattle.std.specs.Str.{chars}
use Rattle.es_lint.specs.Bad.{quoted}
use Rattle.es_lint.proofs.BadLemmas.{no_chars, quoted_none, quoted_some}
use Rattle.es_lint.proofs.bad.quoted.Goals as goal

pub returns-in-Some : goal.returns-in-Some
returns-in-Some c =
    subst (λ bytes. chars c.in-Some.part.now ≡ quoted bytes c.args.span) c.text.ensures.bytes
    (ap chars c.in-Some.ensures.1 ∙ quoted_some c.parts_lie.ensures c.text.result.now c.args.span c.in-Some.ensures.0)

pub returns-in-None : goal.returns-in-None
returns-in-None c =
    subst (λ bytes. chars (codes "") ≡ quoted bytes c.args.span) c.text.ensures.bytes
    (no_chars ∙ quoted_none c.parts_lie.ensures c.text.result.now c.args.span c.in-None.ensures)
