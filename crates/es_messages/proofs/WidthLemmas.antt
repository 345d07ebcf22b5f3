-- How many bytes characters take.
use Rattle.std.proofs.Common.{◌≡◌, ◌∙◌, ℕ, ◌+◌, List, [], ◌∷◌, ◌++◌, length, length-append, refl, ap, arith}
use Rattle.std.specs.Char.{encode_utf8, len_utf8}
use Rattle.std.specs.Str.{IsUtf8, chars, encode_utf8_all}
use Rattle.std.proofs.lemmas.List.Sums.{sum_by-cons}
use Rattle.std.proofs.lemmas.Str.{encodes-chars, length-encode}
use Rattle.es_messages.specs.Stretches.{width}

width_encoded : (cs : List ℕ) → width cs ≡ length (encode_utf8_all cs)
width_encoded [] = refl
width_encoded (c ∷ cs) =
    let rest = width_encoded cs in
    let first = length-encode c in
    let whole = sum_by-cons len_utf8 c cs in
    let joined = length-append (encode_utf8 c) (encode_utf8_all cs) in
    omega (arith, rest, first, whole, joined)

pub width_chars : (bytes : List ℕ) → IsUtf8 bytes → width (chars bytes) ≡ length bytes
width_chars bytes utf8 = width_encoded (chars bytes) ∙ ap length (encodes-chars bytes utf8)
