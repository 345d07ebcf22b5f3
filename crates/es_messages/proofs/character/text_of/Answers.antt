use Rattle.std.proofs.Common.{◌≡◌, ℕ, ◌+◌, List, ◌++◌, ◌∷◌, [], take, sym, ap, ◌∙◌, arith}
use lib.Utf8.{scalars}
use Rattle.std.specs.Prelude.{encode_utf8, encode_utf8_all}
use Rattle.std.specs.Str.{chars}
use Rattle.std.proofs.lemmas.List.{take_more, take_all}
use Rattle.std.proofs.lemmas.Str.{chars-encodes}
use Rattle.std.proofs.lemmas.Result.{IfOk-weaker}
use Rattle.es_messages.proofs.TextsLemmas.{encoded_and, scalars_and}
use Rattle.es_messages.proofs.character.text_of.Goals as goal

pub loop-c-preserved : goal.loop-c-preserved
loop-c-preserved c =
    let front : List ℕ = take c.loop-c.c-index c.args.characters.now in
    let grown : take (c.loop-c.c-index + 1) c.args.characters.now ≡ front ++ c.c-item.result ∷ [] =
    take_more c.args.characters.now c.loop-c.c-index c.c-item.result c.loop-c-test.true ∙ ap (λ x. front ++ x ∷ []) (sym c.c-item.is) in
    record {
      bytes = c.in_ok-push_character.ensures.ok ∙ ap (λ bytes. bytes ++ encode_utf8 c.c-item.result) c.loop-c.invariant.bytes
          ∙ sym (ap encode_utf8_all grown ∙ encoded_and front c.c-item.result);
      scalars = ap scalars grown ∙ scalars_and front c.c-item.result c.loop-c.invariant.scalars c.in_ok-push_character.ensures.scalar;
    }

pub returns : goal.returns
returns c =
    let all = c.args.characters.now in
    let front : List ℕ = take c.loop-c.c-index all in
    let whole : front ≡ all = take_all c.loop-c.c-index all (omega arith) in
    let same : chars c.as_str.result.now ≡ all =
    ap chars (c.as_str.ensures.value ∙ c.loop-c.invariant.bytes) ∙ chars-encodes front c.loop-c.invariant.scalars ∙ whole in
    IfOk-weaker c.new.result _ _ (λ text is. is ∙ same) c.new.ensures
