-- ASCII words that a text begins with, in bytes and in characters.
use Rattle.std.proofs.Common.{◌≡◌, ℕ, zero, suc, ◌+◌, Bool, true, ◌&&◌, List, [], ◌∷◌, ◌++◌, length, take, drop, nat_eq, nat_lt, refl, sym, ap, ◌∙◌, arith, encode_utf8_all, IsUtf8}
use Rattle.std.specs.Str.{chars, all_scalars, IsAscii, IsCharBoundary}
use Rattle.std.specs.List.{starts_with}
use Rattle.std.proofs.lemmas.Bool.{and_parts}
use Rattle.std.proofs.lemmas.Bool.Decides.{nat_tests, Decides-eqb}
use Rattle.std.proofs.lemmas.List.{drop-drop, drop_at, take_at}
use Rattle.std.proofs.lemmas.Slice.Eq.{starts_is}
use Rattle.std.proofs.lemmas.Str.{chars-append, chars-IsAscii, encodes-append, encodes-chars, encodes-IsAscii, IsUtf8-from_ascii, scalars-chars, IsCharBoundary-at_seam, IsCharBoundary-from_rest}
use Rattle.es_text.specs.Rest.{rest}

abbrev pub is_ascii_word : List ℕ → Bool
is_ascii_word [] = true
is_ascii_word (b ∷ bs) = nat_lt b 128 && is_ascii_word bs

pub ascii_word : (w : List ℕ) → is_ascii_word w ≡ true → IsAscii w
ascii_word [] e i = omega arith
ascii_word (b ∷ bs) e zero = let h : nat_lt b 128 ≡ true = (and_parts (nat_lt b 128) (is_ascii_word bs) e).0 in grind (arith, nat_tests)
ascii_word (b ∷ bs) e (suc i) = ascii_word bs (and_parts (nat_lt b 128) (is_ascii_word bs) e).1 i

pub begins_so : (s w : List ℕ) → starts_with nat_eq s w ≡ true → s ≡ w ++ drop (length w) s
begins_so s w = (starts_is Decides-eqb s w (starts_with nat_eq s w) refl).0

pub so_begins : (s w t : List ℕ) → s ≡ w ++ t → starts_with nat_eq s w ≡ true
so_begins s w t = (starts_is Decides-eqb s w (starts_with nat_eq s w) refl).1 t

-- the characters of a text that begins with an ASCII word
pub chars_behind : (s w t : List ℕ) → IsAscii w → s ≡ w ++ t → chars s ≡ w ++ chars t
chars_behind s w t ascii is =
    ap chars is ∙ chars-append w t (IsUtf8-from_ascii w ascii) ∙ ap (λ x. x ++ chars t) (chars-IsAscii w ascii)

pub bytes_to_chars : (s w : List ℕ) → IsAscii w → starts_with nat_eq s w ≡ true → starts_with nat_eq (chars s) w ≡ true
bytes_to_chars s w ascii begins = so_begins (chars s) w _ (chars_behind s w _ ascii (begins_so s w begins))

pub chars_to_bytes : (s w : List ℕ) → IsUtf8 s → IsAscii w → starts_with nat_eq (chars s) w ≡ true → starts_with nat_eq s w ≡ true
chars_to_bytes s w utf8 ascii begins =
    let t = drop (length w) (chars s) in
    so_begins s w (encode_utf8_all t)
    (sym (encodes-chars s utf8) ∙ ap encode_utf8_all (begins_so (chars s) w begins)
    ∙ encodes-append w t ∙ ap (λ x. x ++ encode_utf8_all t) (encodes-IsAscii w ascii))

scalars_behind : (xs ys : List ℕ) → all_scalars (xs ++ ys) ≡ true → all_scalars ys ≡ true
scalars_behind [] ys all = all
scalars_behind (x ∷ xs) ys all = scalars_behind xs ys (and_parts _ _ all).1

-- what follows an ASCII word is a text
utf8_behind : (s w t : List ℕ) → IsUtf8 s → IsAscii w → s ≡ w ++ t → IsUtf8 t
utf8_behind s w t utf8 ascii is =
    let same = chars_behind s w t ascii is in
    let scalar = scalars_behind w (chars t) (ap all_scalars (sym same) ∙ scalars-chars s utf8) in
    let whole : w ++ encode_utf8_all (chars t) ≡ w ++ t =
    ap (λ x. x ++ encode_utf8_all (chars t)) (sym (encodes-IsAscii w ascii)) ∙ sym (encodes-append w (chars t)) ∙ ap encode_utf8_all (sym same) ∙ encodes-chars s utf8 ∙ is in
    (chars t, (scalar, sym (drop_at w (encode_utf8_all (chars t)) (length w) refl) ∙ ap (drop (length w)) whole ∙ drop_at w t (length w) refl))

pub past_boundary : (text : List ℕ) (at : ℕ) (w : List ℕ) → IsUtf8 (drop at text) → IsCharBoundary text at → IsAscii w → starts_with nat_eq (drop at text) w ≡ true
    → IsCharBoundary text (at + length w)
past_boundary text at w utf8 here ascii begins =
    let s = drop at text in
    let is = begins_so s w begins in
    IsCharBoundary-from_rest text at (length w) here.0
    (IsCharBoundary-at_seam s w (drop (length w) s) is (utf8_behind s w (drop (length w) s) utf8 ascii is))

pub past_rest : (text : List ℕ) (at : ℕ) (w : List ℕ) → IsAscii w → starts_with nat_eq (drop at text) w ≡ true
    → rest text (at + length w) ≡ drop (length w) (rest text at)
unfolding rest
past_rest text at w ascii begins =
    let s = drop at text in
    let t = drop (length w) s in
    ap chars (sym (drop-drop (length w) at text))
    ∙ sym (drop_at w (chars t) (length w) refl)
    ∙ ap (drop (length w)) (sym (chars_behind s w t ascii (begins_so s w begins)))

-- of two words as long that begin a text
pub same_word : (s v w : List ℕ) → starts_with nat_eq s v ≡ true → starts_with nat_eq s w ≡ true → length v ≡ length w → v ≡ w
same_word s v w first second same =
    sym (take_at v (drop (length v) s) (length w) same)
    ∙ ap (take (length w)) (sym (begins_so s v first) ∙ begins_so s w second)
    ∙ take_at w (drop (length w) s) (length w) refl
