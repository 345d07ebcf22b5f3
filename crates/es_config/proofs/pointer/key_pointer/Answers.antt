use Rattle.std.proofs.Common.{◌≡◌, ◌∷◌, ◌++◌, ◌∙◌, ap, sym, subst, append-nil, lit<}
use Rattle.std.specs.Prelude.{IfOk, codes, encode_utf8_all, flat_map, string_bytes}
use Rattle.std.specs.Str.{chars}
use Rattle.std.specs.Str.Iter.{chars_rest}
use Rattle.std.proofs.lemmas.Str.{IsUtf8-past_char, IsUtf8-string_bytes, encode_ascii}
use Rattle.es_text.specs.Characters.{slash}
use Rattle.es_config.specs.Walks.{escaped}
use Rattle.es_config.proofs.PointersLemmas.{spelled, spelled_end, spelled_on, whole_chars}
use Rattle.es_config.proofs.pointer.key_pointer.Goals as goal

pub loop-c-preserved : goal.loop-c-preserved
loop-c-preserved c =
    let next = chars_rest c.next.new.self in
    let splits = c.in-Some.ensures.steps.0 in
    record {
      utf8 = IsUtf8-past_char _ next c.in-Some.c c.loop-c.invariant.utf8 splits;
      told = spelled_on (string_bytes c.loop-c.text) (string_bytes c.push_escaped.new.text) _ (chars_rest c.loop-c.rest) next c.in-Some.c c.loop-c.invariant.utf8 splits
          c.in_ok-push_escaped.ensures c.loop-c.invariant.told;
    }

pub returns : goal.returns
returns c =
    let text = string_bytes c.loop-c.text in
    let key = c.args.key.now in
    let none = spelled_end (chars_rest c.loop-c.rest) c.in_default.ensures.steps.0.0 in
    let front : text ≡ codes "/" ++ spelled key = sym (append-nil text) ∙ ap (λ more. text ++ more) (sym none) ∙ c.loop-c.invariant.told in
    let begins : encode_utf8_all (slash ∷ flat_map escaped (chars key)) ≡ codes "/" ++ spelled key = ap (λ first. first ++ spelled key) (encode_ascii slash (lit< tt)) in
    let whole = c.as_str.ensures.value ∙ c.in_ok-push_str.ensures.bytes in
    subst (λ told. IfOk c.new.result (λ txt. txt ≡ told))
    (ap chars whole ∙ whole_chars text c.args.pointer.now (slash ∷ flat_map escaped (chars key)) (IsUtf8-string_bytes c.loop-c.text) (front ∙ sym begins))
    c.new.ensures
