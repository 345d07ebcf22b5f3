-- Steps over characters.
use Rattle.std.proofs.Common.{◌≡◌, ℕ, ◌+◌, List, [], ◌∷◌, ◌++◌, drop, Bool, Option, Some, None, refl, sym, ◌∙◌, ap, arith, ◌<◌, length, get_or, subst}
use Rattle.std.specs.Prelude.{IfNone, encode_utf8, slice_get}
use Rattle.std.specs.Char.{len_utf8}
use Rattle.std.specs.Str.{IsCharBoundary, IsUtf8, chars}
use Rattle.std.proofs.lemmas.List.{drop_more}
use Rattle.std.proofs.lemmas.Str.{chars_past_char, drop_past_char, encode_ascii, IsUtf8-drop, len_utf8_ascii, len_utf8_bounds}
use Rattle.es_text.specs.Productions.{one_of}
use Rattle.es_text.specs.Rest.{rest, drop_while}
use Rattle.es_lexer.specs.declared.cursor.Cursor.{Cursor}
use Rattle.es_lexer.specs.Cursors.{rest_of, StepsOver}

rest_steps : (text : List ℕ) (at c : ℕ) (t : List ℕ) → IsUtf8 (drop at text) → drop at text ≡ encode_utf8 c ++ t → rest text at ≡ c ∷ rest text (at + len_utf8 c)
unfolding rest
rest_steps text at c t utf8 splits =
    chars_past_char (drop at text) t c utf8 splits ∙ ap (λ x. c ∷ chars x) (sym (drop_past_char text t at c splits))

pub steps_over : (from to : Cursor) (c : ℕ) (t : List ℕ) → IsUtf8 (drop from.offset from.text.now)
    → drop from.offset from.text.now ≡ encode_utf8 c ++ t → to.text.now ≡ from.text.now → to.offset ≡ from.offset + len_utf8 c → StepsOver from c to
steps_over from to c t utf8 splits text offset = record {
  here = rest_steps from.text.now from.offset c t utf8 splits ∙ ap (λ n. c ∷ rest from.text.now n) (sym offset) ∙ ap (λ s. c ∷ rest s to.offset) (sym text);
  moves = record { text = text; order = omega (arith, offset, (len_utf8_bounds c).0) };
}

-- the step over a character of ASCII, which is its one byte
pub steps_over_ascii : (bytes : List ℕ) (from to : Cursor) → bytes ≡ from.text.now → IsUtf8 bytes → IsCharBoundary from.text.now from.offset
    → from.offset < length bytes → get_or bytes from.offset 0 < 128
    → to.text.now ≡ from.text.now → to.offset ≡ from.offset + 1 → StepsOver from (get_or bytes from.offset 0) to
steps_over_ascii bytes from to same utf8 boundary within ascii text offset =
    let c : ℕ = get_or bytes from.offset 0 in
    let behind : List ℕ = drop (from.offset + 1) bytes in
    steps_over from to c behind (IsUtf8-drop from.text.now from.offset (subst (λ (t : List ℕ). IsUtf8 t) same utf8) boundary)
    (ap (drop from.offset) (sym same) ∙ drop_more bytes from.offset 0 within ∙ ap (λ (front : List ℕ). front ++ behind) (sym (encode_ascii c ascii)))
    text (offset ∙ ap (λ n. from.offset + n) (sym (len_utf8_ascii c ascii)))

empty : (cs : List ℕ) → None ≡ slice_get cs 0 → cs ≡ []
empty [] none = refl
empty (c ∷ cs) none = cc

pub at_end : (r : Option (ℕ × Cursor)) (cursor : Cursor) → None ≡ slice_get (chars (drop cursor.offset cursor.text.now)) 0 → IfNone r (rest_of cursor ≡ [])
unfolding rest
at_end None cursor none = empty _ none
at_end (Some step) cursor none = tt

-- where no character of the class stands, nothing is dropped
pub drop_while_end : (p : ℕ → Bool) (cs : List ℕ) → None ≡ one_of p cs → cs ≡ drop_while p cs
drop_while_end p [] none = refl
drop_while_end p (c ∷ cs) none = grind arith

pub drop_while_step : (p : ℕ → Bool) (cs ds : List ℕ) → Some ds ≡ one_of p cs → drop_while p ds ≡ drop_while p cs
drop_while_step p [] ds some = cc
drop_while_step p (c ∷ cs) ds some = grind arith
