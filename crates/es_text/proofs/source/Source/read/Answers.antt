use Rattle.std.proofs.Common.{◌≡◌, ◌≢◌, ◌++◌, encode_utf8, IfOk, List, ℕ, sym, ap, ◌∙◌, subst, arith, length}
use Rattle.std.specs.String.{string_bytes}
use Rattle.std.proofs.lemmas.Str.{IsUtf8-string_bytes}
use Rattle.es_text.specs.Texts.{Text, byte_order_mark}
use Rattle.es_text.proofs.TextLemmas.{lossy-short, text_of-marked, text_of-unmarked}
use Rattle.es_text.proofs.source.Source.read.Goals as goal

pub of-requires : goal.of-requires
of-requires c =
    omega (
      arith,
      c.requires,
      lossy-short c.args.bytes.now,
      ap length c.in_ok-text.ensures,
      ap length c.as_str.ensures.value,
      c.in-Some.ensures.cases.3,
      ap length c.in_ok-rest-in-Some.ensures.ok,
    )

pub of-requires-in-None : goal.of-requires-in-None
of-requires-in-None c = omega (arith, c.requires, lossy-short c.args.bytes.now, ap length c.in_ok-text.ensures)

pub returns-in_ok-rest-in-Some : goal.returns-in_ok-rest-in-Some
returns-in_ok-rest-in-Some c =
    let P : Text → Type 0 = λ text. IfOk c.of.result (λ source. source ≡ text) in
    let rest = c.in_ok-rest-in-Some.rest in
    let cut = c.in-Some.ensures.cases in
    subst P (text_of-marked c.args.bytes.now c.as_str.result.now (string_bytes rest) (c.as_str.ensures.value ∙ c.in_ok-text.ensures) (IsUtf8-string_bytes rest)
    (cut.1.split ∙ ap (λ t. encode_utf8 byte_order_mark ++ t) (sym (c.in_ok-rest-in-Some.ensures.ok ∙ cut.2)))) c.of.ensures

pub returns-in-None : goal.returns-in-None
returns-in-None c =
    let P : Text → Type 0 = λ text. IfOk c.of-in-None.result (λ source. source ≡ text) in
    let Q : List ℕ → Type 0 = λ s. (rest : List ℕ) → s ≢ encode_utf8 byte_order_mark ++ rest in
    let text = c.in_ok-text.text in
    subst P (text_of-unmarked c.args.bytes.now (string_bytes text) c.in_ok-text.ensures (IsUtf8-string_bytes text)
    (subst Q c.as_str.ensures.value c.in-None.ensures.cases)) c.of-in-None.ensures
