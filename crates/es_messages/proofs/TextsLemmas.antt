-- Texts and their characters.
use lib.Utf8.{scalar, scalars}
use Rattle.std.proofs.Common.{◌≡◌, ◌∙◌, ℕ, true, ◌&&◌, List, [], ◌∷◌, ◌++◌, sym, ap, subst, append-nil, append_assoc}
use Rattle.std.specs.Prelude.{encode_utf8}
use Rattle.std.specs.Str.{IsUtf8, chars, encode_utf8_all}
use Rattle.std.proofs.lemmas.Bool.{and_parts}
use Rattle.std.proofs.lemmas.Str.{chars-encodes, encodes-append}

scalars_append : (xs ys : List ℕ) → scalars xs ≡ true → scalars ys ≡ true → scalars (xs ++ ys) ≡ true
scalars_append [] ys first second = second
scalars_append (x ∷ xs) ys first second =
    let both = and_parts (scalar x) (scalars xs) first in
    ap (λ b. b && scalars (xs ++ ys)) both.0 ∙ scalars_append xs ys both.1 second

-- characters in front of a text and behind it, which are spelt as they are
pub framed : (front name behind bytes : List ℕ) → scalars front ≡ true → scalars behind ≡ true → encode_utf8_all front ≡ front → encode_utf8_all behind ≡ behind → bytes ≡ encode_utf8_all name → chars bytes ≡ name → IsUtf8 bytes → chars ((front ++ bytes) ++ behind) ≡ front ++ (name ++ behind)
framed front name behind bytes front-scalars behind-scalars front-is behind-is is name-is utf8 =
    let cs : List ℕ = utf8.0 in
    let name-cs : cs ≡ name = sym (chars-encodes cs utf8.1.0) ∙ (ap chars utf8.1.1 ∙ name-is) in
    let name-scalars : scalars name ≡ true = subst (λ xs. scalars xs ≡ true) name-cs utf8.1.0 in
    let all : scalars (front ++ (name ++ behind)) ≡ true = scalars_append front (name ++ behind) front-scalars (scalars_append name behind name-scalars behind-scalars) in
    let spelt : (front ++ bytes) ++ behind ≡ encode_utf8_all (front ++ (name ++ behind)) =
    append_assoc front bytes behind
    ∙ sym (encodes-append front (name ++ behind)
    ∙ (ap (λ xs. xs ++ encode_utf8_all (name ++ behind)) front-is
    ∙ ap (λ xs. front ++ xs) (encodes-append name behind ∙ (ap (λ xs. xs ++ encode_utf8_all behind) (sym is) ∙ ap (λ xs. bytes ++ xs) behind-is)))) in
    ap chars spelt ∙ chars-encodes (front ++ (name ++ behind)) all

-- a character that joins at the end
pub scalars_and : (cs : List ℕ) (c : ℕ) → scalars cs ≡ true → scalar c ≡ true → scalars (cs ++ c ∷ []) ≡ true
scalars_and cs c all one = scalars_append cs (c ∷ []) all (ap (λ b. b && true) one)

pub encoded_and : (cs : List ℕ) (c : ℕ) → encode_utf8_all (cs ++ c ∷ []) ≡ encode_utf8_all cs ++ encode_utf8 c
encoded_and cs c = encodes-append cs (c ∷ []) ∙ ap (λ bytes. encode_utf8_all cs ++ bytes) (append-nil (encode_utf8 c))
