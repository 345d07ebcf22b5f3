-- The characters of a text without its first or its last one.
use Rattle.std.proofs.Common.{◌≡◌, ◌∙◌, ap, sym, ℕ, true, false, ◌-◌, ◌==◌, List, [], ◌∷◌, ◌++◌, length, take, drop, arith, refl, IsUtf8, length-drop}
use Rattle.std.specs.Prelude.{codes, encode_utf8, encode_utf8_all, IfNone, Option, None, Some}
use Rattle.std.specs.Str.{bytes_eq, chars}
use Rattle.std.proofs.lemmas.Bool.Decides.{same_from_decides}
use Rattle.std.proofs.lemmas.Slice.Eq.{bytes_eq-Decides}
use Rattle.std.proofs.lemmas.List.{append-nil, length-append, length-take, take-take, take_at}
use Rattle.std.proofs.lemmas.Str.{chars-nil, encodes-append, encodes-chars, encodes_same}
use Rattle.es_text.specs.Characters.{letter_n}
use Rattle.es_grammar.specs.declared.part.Field.TheVariants as f
use Rattle.es_grammar.specs.Drafts.{between, ends_with_n, flag, kind_setting, word_value, words}
use Rattle.es_grammar.specs.declared.part.MemberKind.TheVariants as m
use lib.Utf8.{encode}

pub last_char : (bs front : List ℕ) (c : ℕ) → IsUtf8 bs → IsUtf8 front → bs ≡ front ++ encode_utf8 c → chars bs ≡ chars front ++ c ∷ []
last_char bs front c utf8 front_utf8 e =
    encodes_same (chars bs) (chars front ++ c ∷ [])
    (encodes-chars bs utf8 ∙ e ∙ ap (λ xs. xs ++ encode_utf8 c) (sym (encodes-chars front front_utf8))
    ∙ sym (encodes-append (chars front) (c ∷ []) ∙ simp append-nil))

pub without_last_of : (xs front : List ℕ) (c : ℕ) → xs ≡ front ++ c ∷ [] → front ≡ take (length xs - 1) xs
without_last_of xs front c e =
    sym (take_at front (c ∷ []) (length xs - 1) (omega (arith, ap length e, length-append front (c ∷ []))))
    ∙ ap (take (length xs - 1)) (sym e)

pub inside_of : (cs rest : List ℕ) → rest ≡ drop 1 cs → take (length rest - 1) rest ≡ between 1 1 cs
inside_of cs rest e =
    let count : length rest - 1 ≡ length cs - 2 = omega (arith, ap length e, length-drop 1 cs) in
    ap (λ n. take n rest) count ∙ ap (take (length cs - 2)) e

pub inside_two_of : (cs rest : List ℕ) → rest ≡ between 1 1 cs → take (length rest - 1) rest ≡ between 1 2 cs
inside_two_of cs rest e =
    let count : length rest - 1 ≡ length cs - 3 = omega (arith, ap length e, length-take (length cs - 2) (drop 1 cs), length-drop 1 cs) in
    ap (λ n. take n rest) count ∙ ap (take (length cs - 3)) e
    ∙ take-take (length cs - 3) (length cs - 2) (drop 1 cs) (omega arith)

pub ends_pushed : (xs : List ℕ) (c : ℕ) → ends_with_n (xs ++ c ∷ []) ≡ (c == letter_n)
ends_pushed [] c = refl
ends_pushed (x ∷ []) c = refl
ends_pushed (x ∷ y ∷ rest) c = ends_pushed (y ∷ rest) c

pub empty_chars : (bs : List ℕ) → length bs ≡ 0 → chars bs ≡ []
empty_chars [] e = chars-nil
empty_chars (b ∷ bs) e = absurd (omega arith)

pub none_has : {A P : Type 0} (r : Option A) → P → IfNone r P
none_has None p = p
none_has (Some x) p = tt

-- an ASCII text is its characters
literal_same : (bs ds : List ℕ) → IsUtf8 bs → encode_utf8_all ds ≡ ds → chars ds ≡ ds → bytes_eq (chars bs) ds ≡ bytes_eq bs ds
literal_same bs ds utf8 bytes characters =
    let one = bytes_eq-Decides (chars bs) ds in
    same_from_decides (bytes_eq (chars bs) ds) (bytes_eq bs ds)
    ((λ so. sym (encodes-chars bs utf8) ∙ ap encode_utf8_all (one.0 so) ∙ bytes), (λ e. one.1 (ap chars e ∙ characters)))
    (bytes_eq-Decides bs ds)

chars_of_true : chars (codes "true") ≡ codes "true"
unfolding chars
chars_of_true = refl

chars_of_false : chars (codes "false") ≡ codes "false"
unfolding chars
chars_of_false = refl

true_same : (bs : List ℕ) → IsUtf8 bs → bytes_eq (chars bs) (codes "true") ≡ bytes_eq bs (codes "true")
unfolding encode
true_same bs utf8 = literal_same bs (codes "true") utf8 refl chars_of_true

false_same : (bs : List ℕ) → IsUtf8 bs → bytes_eq (chars bs) (codes "false") ≡ bytes_eq bs (codes "false")
unfolding encode
false_same bs utf8 = literal_same bs (codes "false") utf8 refl chars_of_false

-- the value of a word, by the bytes of its text
pub true_value : (bs : List ℕ) → IsUtf8 bs → bytes_eq bs (codes "true") ≡ true → word_value (chars bs) ≡ flag f.Value true ∷ []
unfolding word_value
true_value bs utf8 e = rw (true_same bs utf8 ∙ e) refl

pub false_value : (bs : List ℕ) → IsUtf8 bs → bytes_eq bs (codes "true") ≡ false → bytes_eq bs (codes "false") ≡ true →
    word_value (chars bs) ≡ flag f.Value false ∷ []
unfolding word_value
false_value bs utf8 e h = rw (true_same bs utf8 ∙ e, false_same bs utf8 ∙ h) refl

pub other_value : (bs : List ℕ) → IsUtf8 bs → bytes_eq bs (codes "true") ≡ false → bytes_eq bs (codes "false") ≡ false →
    word_value (chars bs) ≡ words f.Value (chars bs) ∷ []
unfolding word_value
other_value bs utf8 e h = rw (true_same bs utf8 ∙ e, false_same bs utf8 ∙ h) refl

-- the words of a member's kind are ASCII
pub init_words : words f.Kind (chars (codes "init")) ≡ kind_setting m.Init
unfolding chars kind_setting
init_words = refl

pub method_words : words f.Kind (chars (codes "method")) ≡ kind_setting m.Method
unfolding chars kind_setting
method_words = refl

pub constructor_words : words f.Kind (chars (codes "constructor")) ≡ kind_setting m.Constructor
unfolding chars kind_setting
constructor_words = refl
