-- Pointers as bytes and as characters.
use Rattle.std.proofs.Common.{◌≡◌, ◌∙◌, ℕ, ◌<◌, ◌^◌, List, [], ◌∷◌, ◌++◌, length, sym, ap, arith, lit<, append_assoc}
use Rattle.std.specs.Prelude.{IsUtf8, IsAscii, encode_utf8, encode_utf8_all, flat_map, decimal}
use Rattle.std.specs.Str.{chars}
use Rattle.std.proofs.lemmas.Fmt.{IsAscii-decimal}
use Rattle.std.proofs.lemmas.Str.{chars-append, chars-nil, chars-IsAscii, chars_from_encodes, chars_past_char, encodes-append, IsUtf8-from_ascii}
use Rattle.std.proofs.lemmas.Str.Ascii.{IsAscii-cons}
use Rattle.es_text.specs.Characters.{slash}
use Rattle.es_config.specs.Walks.{escaped, index_part}

pub index_chars : (index : ℕ) (pointer : List ℕ) → index < 2 ^ 64 → chars (slash ∷ (decimal index ++ pointer)) ≡ index_part index ++ chars pointer
index_chars index pointer small =
    let plain : IsAscii (slash ∷ decimal index) = IsAscii-cons 47 (decimal index) (lit< tt) (IsAscii-decimal index small) in
    chars-append (slash ∷ decimal index) pointer (IsUtf8-from_ascii _ plain) ∙ ap (λ part. part ++ chars pointer) (chars-IsAscii _ plain)

abbrev pub spelled : List ℕ → List ℕ
spelled key = encode_utf8_all (flat_map escaped (chars key))

-- a character of a key behind what is written
pub spelled_on : (old new all rest next : List ℕ) (c : ℕ) → IsUtf8 rest → rest ≡ encode_utf8 c ++ next → new ≡ old ++ encode_utf8_all (escaped c) →
    old ++ spelled rest ≡ all → new ++ spelled next ≡ all
spelled_on old new all rest next c utf8 splits pushed known =
    ap (λ text. text ++ spelled next) pushed
    ∙ append_assoc old (encode_utf8_all (escaped c)) (spelled next)
    ∙ ap (λ text. old ++ text) (sym (encodes-append (escaped c) (flat_map escaped (chars next))) ∙ ap (λ cs. encode_utf8_all (flat_map escaped cs)) (sym (chars_past_char rest next c utf8 splits)))
    ∙ known

pub spelled_end : (rest : List ℕ) → length rest ≡ 0 → spelled rest ≡ []
spelled_end [] none = ap (λ cs. encode_utf8_all (flat_map escaped cs)) chars-nil
spelled_end (b ∷ rest) none = absurd (omega arith)

pub whole_chars : (front pointer cs : List ℕ) → IsUtf8 front → front ≡ encode_utf8_all cs → chars (front ++ pointer) ≡ cs ++ chars pointer
whole_chars front pointer cs utf8 e =
    chars-append front pointer utf8 ∙ ap (λ text. text ++ chars pointer) (sym (chars_from_encodes cs front utf8 (sym e)))
