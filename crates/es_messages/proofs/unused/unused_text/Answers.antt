use Rattle.std.proofs.Common.{◌≡◌, ◌∙◌, ℕ, List, refl, sym, ap, codes, option_map, Bor}
use Rattle.std.specs.Str.{chars}
use Rattle.std.proofs.lemmas.Result.{IfOk-weaker}
use Rattle.es_text.specs.declared.txt.Txt.{Txt}
use Rattle.es_messages.specs.Suppression.{unused_text}
use Rattle.es_messages.proofs.unused.unused_text.Goals as goal

plain : chars (codes "Unused eslint-disable directive (no problems were reported).") ≡ codes "Unused eslint-disable directive (no problems were reported)."
unfolding chars
plain = refl

pub returns-in-None : goal.returns-in-None
returns-in-None c =
    IfOk-weaker c.new.result _ _ (λ text is. is ∙ (plain ∙ ap (λ rule. unused_text (option_map {T = Bor Txt} {U = Txt} (λ rule. rule.now) rule)) (sym c.in-None.is))) c.new.ensures
