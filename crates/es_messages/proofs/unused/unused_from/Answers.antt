use lib.Utf8.{encode}
use Rattle.std.proofs.Common.{◌≡◌, ◌∙◌, ℕ, List, ◌++◌, refl, sym, ap, codes}
use Rattle.std.specs.Str.{chars}
use Rattle.std.proofs.lemmas.Result.{IfOk-weaker}
use Rattle.es_messages.specs.Suppression.{unused_text}
use Rattle.es_messages.proofs.TextsLemmas.{framed}
use Rattle.es_messages.proofs.unused.unused_from.Goals as goal

pub returns : goal.returns
unfolding encode
returns c =
    let front : List ℕ = codes "Unused eslint-disable directive (no problems were reported from '" in
    let behind : List ℕ = codes "')." in
    let bytes : c.as_str-2.result.now ≡ (front ++ c.as_str.result.now) ++ behind =
    c.as_str-2.ensures.value ∙ c.in_ok-push_str-2.ensures.bytes ∙ ap (λ xs. xs ++ behind) (c.in_ok-push_str.ensures.bytes ∙ ap (λ xs. xs ++ c.as_str.result.now) c.in_ok-text.ensures.ok) in
    IfOk-weaker c.new.result _ _ (λ text is. is ∙ (ap chars bytes
    ∙ framed front c.args.rule.now behind c.as_str.result.now refl refl refl refl c.as_str.ensures.bytes c.as_str.ensures.characters c.as_str.utf8)) c.new.ensures
