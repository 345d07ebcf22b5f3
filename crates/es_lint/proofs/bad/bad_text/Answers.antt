use lib.Utf8.{encode}
use Rattle.std.proofs.Common.{◌≡◌, ◌∙◌, ℕ, List, ◌++◌, refl, sym, ap, codes}
use Rattle.std.specs.Str.{chars}
use Rattle.std.proofs.lemmas.Result.{IfOk-weaker}
use Rattle.std.proofs.lemmas.Str.{encodes-chars}
use Rattle.es_messages.proofs.TextsLemmas.{framed}
use Rattle.es_lint.proofs.bad.bad_text.Goals as goal

pub returns : goal.returns
unfolding encode
returns c =
    let front : List ℕ = codes "Bad inline entry '" in
    let behind : List ℕ = codes "'." in
    let part : List ℕ = c.args.part.now in
    let bytes : c.as_str.result.now ≡ (front ++ part) ++ behind =
    c.as_str.ensures.value ∙ c.in_ok-push_str-2.ensures.bytes ∙ ap (λ xs. xs ++ behind) (c.in_ok-push_str.ensures.bytes ∙ ap (λ xs. xs ++ part) c.in_ok-text.ensures.ok) in
    IfOk-weaker c.new.result _ _ (λ text is. is ∙ (ap chars bytes
    ∙ framed front (chars part) behind part refl refl refl refl (sym (encodes-chars part c.utf8.part)) refl c.utf8.part)) c.new.ensures
