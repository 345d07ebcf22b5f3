-- Steps over the characters of a text.
use Rattle.std.proofs.Common.{◌≡◌, ℕ, ◌+◌, List, [], ◌∷◌, ◌++◌, length, sym, ap, ◌∙◌, arith, true, false, append_assoc, append-nil, length-append, encode_utf8, IsUtf8, ◌<◌, ◌≤◌, Bool, drop, get_or, subst}
use Rattle.std.specs.Str.{chars, IsCharBoundary}
use Rattle.std.specs.Char.{len_utf8}
use Rattle.std.proofs.lemmas.Bool.Decides.{nat_tests}
use Rattle.std.proofs.lemmas.List.{drop_all, drop_more}
use Rattle.std.proofs.lemmas.Str.{chars-nil, chars_past_char, drop_past_char, encode_ascii, IsCharBoundary-past_char, IsUtf8-drop, IsUtf8-past_char, len_utf8_ascii, length-encode}
use Rattle.es_text.specs.LineStarts.{is_plain_byte, IsLineStep, later_starts}
use Rattle.es_text.specs.Texts.{ends_line}
use Rattle.es_text.proofs.PlaceLemmas.{later_starts-ends, later_starts-runs}

pub chars-empty : (s : List ℕ) → length s ≡ 0 → chars s ≡ []
chars-empty [] none = chars-nil
chars-empty (b ∷ s) none = absurd (omega arith)

pub utf8-step : (s t : List ℕ) (c : ℕ) → IsUtf8 s → s ≡ encode_utf8 c ++ t → IsUtf8 t
utf8-step s t c utf8 splits = IsUtf8-past_char s t c utf8 splits

-- the line starts behind a text's first character
pub starts-end : (items items' s t all : List ℕ) (c at next : ℕ) → IsUtf8 s → s ≡ encode_utf8 c ++ t
    → items ++ later_starts at (chars s) ≡ all → next ≡ at + len_utf8 c → items' ≡ items ++ next ∷ [] → ends_line c (chars t) ≡ true
    → items' ++ later_starts next (chars t) ≡ all
starts-end items items' s t all c at next utf8 splits known moved pushed ends =
    ap (λ starts. starts ++ later_starts next (chars t)) pushed
    ∙ append_assoc items (next ∷ []) (later_starts next (chars t))
    ∙ ap (λ n. items ++ n ∷ later_starts n (chars t)) moved
    ∙ ap (λ starts. items ++ starts) (sym (ap (later_starts at) (chars_past_char s t c utf8 splits) ∙ later_starts-ends at c (chars t) ends))
    ∙ known

pub starts-run : (items s t all : List ℕ) (c at next : ℕ) → IsUtf8 s → s ≡ encode_utf8 c ++ t
    → items ++ later_starts at (chars s) ≡ all → next ≡ at + len_utf8 c → ends_line c (chars t) ≡ false
    → items ++ later_starts next (chars t) ≡ all
starts-run items s t all c at next utf8 splits known moved runs =
    ap (λ n. items ++ later_starts n (chars t)) moved
    ∙ ap (λ starts. items ++ starts) (sym (ap (later_starts at) (chars_past_char s t c utf8 splits) ∙ later_starts-runs at c (chars t) runs))
    ∙ known

-- at the end of the text no line starts any more
pub starts-end_of_text : (items s all : List ℕ) (at : ℕ) → length s ≡ 0 → items ++ later_starts at (chars s) ≡ all → items ≡ all
starts-end_of_text items s all at none known =
    sym (append-nil items) ∙ ap (λ cs. items ++ later_starts at cs) (sym (chars-empty s none)) ∙ known

pub length-step : (s t : List ℕ) (c : ℕ) → s ≡ encode_utf8 c ++ t → length s ≡ len_utf8 c + length t
length-step s t c splits = ap length splits ∙ length-append (encode_utf8 c) t ∙ ap (λ n. n + length t) (length-encode c)

-- one step over a character
pub step-boundary : (text : List ℕ) (at end : ℕ) (ends : Bool) → IsUtf8 text → IsCharBoundary text at → IsLineStep text at end ends → IsCharBoundary text end
step-boundary text at end ends utf8 boundary step =
    subst (λ (n : ℕ). IsCharBoundary text n) (sym step.moves)
    (IsCharBoundary-past_char text (drop end text) at step.character boundary.0 (IsUtf8-drop text at utf8 boundary) step.here)

pub step-ends : (items items' text all : List ℕ) (at end : ℕ) (ends : Bool) → IsUtf8 text → IsCharBoundary text at → IsLineStep text at end ends
    → items ++ later_starts at (chars (drop at text)) ≡ all → items' ≡ items ++ end ∷ [] → ends ≡ true
    → items' ++ later_starts end (chars (drop end text)) ≡ all
step-ends items items' text all at end ends utf8 boundary step known pushed is =
    starts-end items items' (drop at text) (drop end text) all step.character at end (IsUtf8-drop text at utf8 boundary) step.here known step.moves pushed
    (sym step.line ∙ is)

pub step-runs : (items text all : List ℕ) (at end : ℕ) (ends : Bool) → IsUtf8 text → IsCharBoundary text at → IsLineStep text at end ends
    → items ++ later_starts at (chars (drop at text)) ≡ all → ends ≡ false
    → items ++ later_starts end (chars (drop end text)) ≡ all
step-runs items text all at end ends utf8 boundary step known is =
    starts-run items (drop at text) (drop end text) all step.character at end (IsUtf8-drop text at utf8 boundary) step.here known step.moves
    (sym step.line ∙ is)

-- a character of ASCII that ends no line, by its byte
plain_runs : (byte : ℕ) (following : List ℕ) → is_plain_byte byte ≡ true → false ≡ ends_line byte following
plain_runs byte following plain = grind (arith, nat_tests)

plain_ascii : (byte : ℕ) → is_plain_byte byte ≡ true → byte < 128
plain_ascii byte plain = grind (arith, nat_tests)

pub plain-step : (text : List ℕ) (at : ℕ) → at < length text → is_plain_byte (get_or text at 0) ≡ true → IsLineStep text at (at + 1) false
plain-step text at within plain =
    let byte : ℕ = get_or text at 0 in
    let ascii : byte < 128 = plain_ascii byte plain in
    let behind : List ℕ = drop (at + 1) text in
    record {
      character = byte;
      here = drop_more text at 0 within ∙ ap (λ (front : List ℕ). front ++ behind) (sym (encode_ascii byte ascii));
      moves = ap (λ n. at + n) (sym (len_utf8_ascii byte ascii));
      line = plain_runs byte (chars behind) plain;
    }

-- a character of any width, which the iterator gave
pub char-step : (text s t : List ℕ) (at c width : ℕ) (ends : Bool) → s ≡ drop at text → s ≡ encode_utf8 c ++ t
    → width ≡ len_utf8 c → ends ≡ ends_line c (chars t) → IsLineStep text at (at + width) ends
char-step text s t at c width ends is splits wide line =
    let here : drop at text ≡ encode_utf8 c ++ t = sym is ∙ splits in
    let behind : drop (at + width) text ≡ t = ap (λ n. drop (at + n) text) wide ∙ drop_past_char text t at c here in
    record {
      character = c;
      here = here ∙ ap (λ (u : List ℕ). encode_utf8 c ++ u) (sym behind);
      moves = ap (λ n. at + n) wide;
      line = line ∙ ap (λ (u : List ℕ). ends_line c (chars u)) (sym behind);
    }

pub starts-all : (items text all : List ℕ) (at : ℕ) → length text ≤ at → items ++ later_starts at (chars (drop at text)) ≡ all → items ≡ all
starts-all items text all at past known =
    starts-end_of_text items (drop at text) all at (ap length (drop_all at text past)) known
