-- What the decoding of a file's bytes gives.
use Rattle.std.proofs.Common.{◌≡◌, ◌≢◌, ℕ, zero, suc, ◌*◌, ◌<◌, ◌≤◌, Bool, true, false, List, [], ◌∷◌, ◌++◌, length, get_or, drop, refl, sym, ap, subst, ◌∙◌, arith, ⊎_elim, length-drop, encode_utf8, encode_utf8_all, IsUtf8, ◌==◌}
use Rattle.std.specs.Char.{len_utf8}
use Rattle.std.specs.Str.{chars, IsAscii}
use Rattle.std.proofs.lemmas.Bool.{cases_Bool, cond-false}
use Rattle.std.proofs.lemmas.Bool.Decides.{nat_tests}
use Rattle.std.proofs.lemmas.Str.{cons_from_encodes, encodes-chars, encodes_same, encodes-IsAscii, IsUtf8-from_ascii, len_utf8_bounds}
use Rattle.bstr.specs.Utf8.{code_of_2, code_of_3, code_of_4, Decoded, decoded, decoded_by, or_replacement, lossy_chars}
use Rattle.bstr.proofs.lemmas.EncodeLemmas.{lossy_chars-utf8}
use Rattle.bstr.proofs.lemmas.PieceLemmas.{by-shape, piece-bounds, lossy_chars-nil, lossy_chars-step}
use Rattle.es_text.specs.Texts.{Text, byte_order_mark, is_marked, text_of, without_mark}
use Rattle.es_text.proofs.PlaceLemmas.{bytes_of, bytes_of-cons}

-- a text by its parts
abbrev as_text : List ℕ → Bool → Text
as_text characters marked = record { characters = characters; marked = marked }

-- a piece's character takes three bytes a byte at most
abbrev Short : Decoded → Type 0
Short piece = len_utf8 (or_replacement piece.char) ≤ 3 * piece.size

piece-short : (n b c d e : ℕ) → 0 < n → Short (decoded_by n b c d e)
piece-short n b c d e some =
    let back : (piece : Decoded) → decoded_by n b c d e ≡ piece → Short piece → Short (decoded_by n b c d e) =
    λ piece is short. subst Short (sym is) short in
    by-shape n b c d e
    (λ h. absurd (omega arith))
    (λ h. back _ h.2 (grind (arith, nat_tests)))
    (λ h. back _ h.3 (omega arith))
    (λ h. back _ h.2 (omega arith))
    (λ h. back _ h.4 (omega arith))
    (λ h. back _ h.4 (omega arith))
    (λ h. back _ h.4 (omega (arith, (len_utf8_bounds (code_of_2 b c)).1)))
    (λ h. back _ h.5 (omega arith))
    (λ h. back _ h.5 (omega arith))
    (λ h. back _ h.5 (omega (arith, (len_utf8_bounds (code_of_3 b c d)).1)))
    (λ h. back _ h.6 (omega arith))
    (λ h. back _ h.6 (omega arith))
    (λ h. back _ h.6 (omega (arith, (len_utf8_bounds (code_of_4 b c d e)).1)))

lossy-within : (fuel : ℕ) (bs : List ℕ) → length bs ≤ fuel → bytes_of (lossy_chars bs) ≤ 3 * length bs
lossy-within fuel [] enough = omega (arith, ap bytes_of lossy_chars-nil)
lossy-within zero (b ∷ bs) enough = absurd (omega arith)
lossy-within (suc fuel) (b ∷ bs) enough =
    let all = b ∷ bs in
    let size = (decoded all).size in
    let some : 0 < length all = omega arith in
    let bounds = piece-bounds all some in
    let left = length-drop size all in
    let rest = lossy-within fuel (drop size all) (omega (arith, left, bounds.0)) in
    omega (
      arith,
      ap bytes_of (lossy_chars-step all some),
      bytes_of-cons (or_replacement (decoded all).char) (lossy_chars (drop size all)),
      rest,
      left,
      bounds.2,
      piece-short (length all) (get_or all 0 0) (get_or all 1 0) (get_or all 2 0) (get_or all 3 0) some,
    )

-- the text of a file takes three bytes a byte of it at most
pub lossy-short : (bs : List ℕ) → bytes_of (lossy_chars bs) ≤ 3 * length bs
lossy-short bs = lossy-within (length bs) bs (omega arith)

-- without its mark a marked text is the file's
pub text_of-marked : (bytes s rest : List ℕ) → s ≡ encode_utf8_all (lossy_chars bytes) → IsUtf8 rest → s ≡ encode_utf8 byte_order_mark ++ rest
    → as_text (chars rest) true ≡ text_of bytes
text_of-marked bytes s rest decoded utf8 splits =
    let cut = cons_from_encodes (lossy_chars bytes) rest byte_order_mark (sym decoded ∙ splits) in
    let same : chars rest ≡ cut.0 = encodes_same (chars rest) cut.0 (encodes-chars rest utf8 ∙ sym cut.2) in
    let Q : List ℕ → Text = λ cs. as_text (without_mark cs) (is_marked cs) in
    ap (λ cs. as_text cs true) same ∙ ap Q (sym cut.1)

unmarked : (cs : List ℕ) → is_marked cs ≡ false → as_text cs false ≡ as_text (without_mark cs) (is_marked cs)
unmarked [] none = refl
unmarked (c ∷ cs) none =
    ap (λ xs. as_text xs false) (sym (cond-false (c == byte_order_mark) cs (c ∷ cs) none))
    ∙ ap (λ b. as_text (without_mark (c ∷ cs)) b) (sym none)

no-mark : (cs : List ℕ) → ((rest : List ℕ) → encode_utf8_all cs ≢ encode_utf8 byte_order_mark ++ rest) → is_marked cs ≡ false
no-mark [] none = refl
no-mark (c ∷ cs) none =
    ⊎_elim
    (λ (is : c == byte_order_mark ≡ true).
    let same : c ≡ byte_order_mark = grind (arith, nat_tests) in
    absurd (none (encode_utf8_all cs) (ap (λ n. encode_utf8 n ++ encode_utf8_all cs) same)))
    (λ (other : c == byte_order_mark ≡ false). other)
    (cases_Bool (c == byte_order_mark))

pub text_of-unmarked : (bytes s : List ℕ) → s ≡ encode_utf8_all (lossy_chars bytes) → IsUtf8 s
    → ((rest : List ℕ) → s ≢ encode_utf8 byte_order_mark ++ rest) → as_text (chars s) false ≡ text_of bytes
text_of-unmarked bytes s decoded utf8 none =
    let same : chars s ≡ lossy_chars bytes = encodes_same (chars s) (lossy_chars bytes) (encodes-chars s utf8 ∙ decoded) in
    ap (λ cs. as_text cs false) same
    ∙ unmarked (lossy_chars bytes) (no-mark (lossy_chars bytes) (λ rest is. none rest (decoded ∙ is)))

ascii-lossy : (bytes : List ℕ) → IsAscii bytes → lossy_chars bytes ≡ bytes
ascii-lossy bytes ascii =
    encodes_same (lossy_chars bytes) bytes (lossy_chars-utf8 bytes (IsUtf8-from_ascii bytes ascii) ∙ sym (encodes-IsAscii bytes ascii))

ascii-unmarked : (bytes : List ℕ) → IsAscii bytes → is_marked bytes ≡ false
ascii-unmarked [] ascii = refl
ascii-unmarked (b ∷ bytes) ascii =
    let below : b < 128 = ascii 0 in
    grind (arith, nat_tests)

-- the text of ASCII is its bytes
pub text_of-ascii : (bytes : List ℕ) → IsAscii bytes → as_text bytes false ≡ text_of bytes
text_of-ascii bytes ascii =
    let Q : List ℕ → Text = λ cs. as_text (without_mark cs) (is_marked cs) in
    unmarked bytes (ascii-unmarked bytes ascii) ∙ ap Q (sym (ascii-lossy bytes ascii))
