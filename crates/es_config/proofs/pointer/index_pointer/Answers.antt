use Rattle.std.proofs.Common.{◌≡◌, ◌∙◌, ap, subst, arith}
use Rattle.std.specs.Prelude.{IfOk}
use Rattle.std.specs.Str.{chars}
use Rattle.es_config.proofs.PointersLemmas.{index_chars}
use Rattle.es_config.proofs.pointer.index_pointer.Goals as goal

pub returns : goal.returns
returns c =
    let whole = c.as_str.ensures.value ∙ c.in_ok-text.ensures.ok in
    subst (λ text. IfOk c.new.result (λ txt. txt ≡ text)) (ap chars whole ∙ index_chars c.args.index c.args.pointer.now (omega (arith, c.ranges.index.fits))) c.new.ensures
