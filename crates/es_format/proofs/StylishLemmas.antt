-- The bytes of the parts of a line, and the widths of columns.
use Rattle.std.proofs.Common.{◌≡◌, ℕ, zero, suc, ◌+◌, ◌-◌, ◌<◌, ◌^◌, List, [], ◌∷◌, ◌++◌, length, map, take, get_or, max, replicate, codes, encode_utf8_all, refl, sym, ap, append_assoc, ◌∙◌, arith, lit<}
use Rattle.std.proofs.lemmas.Str.{IsAscii-append, chars-IsAscii, encodes-append, encodes-chars, encode_ascii}
use Rattle.std.proofs.lemmas.Str.Ascii.{IsAscii-cons, IsAscii-nil}
use Rattle.std.proofs.lemmas.Fmt.{IsAscii-decimal}
use Rattle.std.proofs.lemmas.List.{take_more, flat_map_more}
use Rattle.std.specs.List.{flat_map}
use Rattle.std.specs.Prelude.{Option, Some}
use Rattle.std.specs.Str.{IsUtf8, IsAscii, chars}
use lib.Utf8.{encode}
use Rattle.es_text.specs.declared.finding.Severity.{Severity}
use Rattle.es_text.specs.declared.finding.Severity.TheVariants.{Error, Warn}
use Rattle.es_messages.specs.declared.message.Message.{Message}
use Rattle.es_format.specs.Stylish.{file_text, line_end, told, place_text, widest, padded, message_line, message_lines, severity_text}

-- an ASCII character is one byte
pub encodes-cons : (c : ℕ) (cs : List ℕ) → c < 128 → encode_utf8_all (c ∷ cs) ≡ c ∷ encode_utf8_all cs
encodes-cons c cs small = ap (λ bytes. bytes ++ encode_utf8_all cs) (encode_ascii c small)

pub encodes-spaces : (n : ℕ) → encode_utf8_all (replicate n 32) ≡ replicate n 32
encodes-spaces zero = refl
encodes-spaces (suc n) = encodes-cons 32 (replicate n 32) (lit< tt) ∙ ap (λ bytes. 32 ∷ bytes) (encodes-spaces n)

-- a padded text is its bytes and spaces
pub encodes-padded : (width : ℕ) (text : List ℕ) → IsUtf8 text
    → encode_utf8_all (padded width (chars text)) ≡ text ++ replicate (width - length (chars text)) 32
encodes-padded width text utf8 =
    rw (encodes-append, encodes-chars text utf8, encodes-spaces)

IsAscii-place : (message : Message) → message.line < 2 ^ 64 → message.column < 2 ^ 64 → IsAscii (place_text message)
IsAscii-place message line column =
    IsAscii-append _ _ (IsAscii-decimal message.line line) (IsAscii-cons 58 _ (lit< tt) (IsAscii-decimal message.column column))

pub chars-place : (message : Message) → message.line < 2 ^ 64 → message.column < 2 ^ 64
    → chars (place_text message) ≡ place_text message
chars-place message line column = chars-IsAscii _ (IsAscii-place message line column)

-- the bytes of a message's line
pub encodes-message_line : (place severity text : ℕ) (message : Message)
    → encode_utf8_all (message_line place severity text message)
    ≡ codes "  " ++ (encode_utf8_all (padded place (place_text message))
    ++ (codes "  " ++ (encode_utf8_all (padded severity (severity_text message.severity))
    ++ (codes "  " ++ (encode_utf8_all (told text message.text message.rule) ++ line_end)))))
unfolding encode
encodes-message_line place severity text message = simp (encodes-append, append_assoc)

-- the bytes of a message and the rule's id
encodes-with_rule : (width : ℕ) (text rule : List ℕ)
    → encode_utf8_all (padded width text ++ (codes "  " ++ rule))
    ≡ encode_utf8_all (padded width text) ++ (codes "  " ++ encode_utf8_all rule)
unfolding encode
encodes-with_rule width text rule = simp (encodes-append, append_assoc)

pub encodes-told : (width : ℕ) (text : List ℕ) (made : Option (List ℕ)) (rule : List ℕ) → made ≡ Some rule
    → encode_utf8_all (told width text made)
    ≡ encode_utf8_all (padded width text) ++ (codes "  " ++ encode_utf8_all rule)
unfolding told
encodes-told width text made rule is =
    ap (λ (r : Option (List ℕ)). encode_utf8_all (told width text r)) is ∙ encodes-with_rule width text rule

-- the widest of one more text
pub widest-more : {A : Type 0} (f : A → List ℕ) (items : List A) (item : A)
    → widest (map f (items ++ item ∷ [])) ≡ max (widest (map f items)) (length (f item))
widest-more f [] item = omega arith
widest-more f (first ∷ items) item = omega (arith, widest-more f items item)

pub widest-step : {A : Type 0} (f : A → List ℕ) (items : List A) (i : ℕ) (item : A) → i < length items
    → widest (map f (take (i + 1) items)) ≡ max (widest (map f (take i items))) (length (f (get_or items i item)))
widest-step f items i item within =
    rw (take_more items i item within) (widest-more f (take i items) (get_or items i item))

-- the parts so far, and one more
pub flat_map-step : {A B : Type 0} (f : A → List B) (items : List A) (i : ℕ) (item : A) → i < length items
    → flat_map f (take (i + 1) items) ≡ flat_map f (take i items) ++ f (get_or items i item)
flat_map-step f items i item within =
    ap (flat_map f) (take_more items i item within) ∙ sym (flat_map_more f [] (take i items) (get_or items i item))

pub encodes-flat_map-step : {A : Type 0} (f : A → List ℕ) (items : List A) (i : ℕ) (item : A) → i < length items
    → encode_utf8_all (flat_map f (take (i + 1) items))
    ≡ encode_utf8_all (flat_map f (take i items)) ++ encode_utf8_all (f (get_or items i item))
encodes-flat_map-step f items i item within =
    ap encode_utf8_all (flat_map-step f items i item within)
    ∙ encodes-append (flat_map f (take i items)) (f (get_or items i item))

-- the words of severities are ASCII
pub chars-severity : (severity : Severity) → chars (severity_text severity) ≡ severity_text severity
unfolding severity_text
chars-severity Error = chars-IsAscii (codes "error")
    (IsAscii-cons 101 (codes "rror") (lit< tt) (IsAscii-cons 114 (codes "ror") (lit< tt) (IsAscii-cons 114 (codes "or") (lit< tt)
    (IsAscii-cons 111 (codes "r") (lit< tt) (IsAscii-cons 114 [] (lit< tt) IsAscii-nil)))))
chars-severity Warn = chars-IsAscii (codes "warning")
    (IsAscii-cons 119 (codes "arning") (lit< tt) (IsAscii-cons 97 (codes "rning") (lit< tt) (IsAscii-cons 114 (codes "ning") (lit< tt)
    (IsAscii-cons 110 (codes "ing") (lit< tt) (IsAscii-cons 105 (codes "ng") (lit< tt) (IsAscii-cons 110 (codes "g") (lit< tt)
    (IsAscii-cons 103 [] (lit< tt) IsAscii-nil)))))))

-- the bytes of what is told of a file that has a message
pub encodes-file : (name : List ℕ) (messages : List Message) → 0 < length messages
    → encode_utf8_all (file_text name messages)
    ≡ line_end ++ (encode_utf8_all name ++ (line_end ++ encode_utf8_all (message_lines messages)))
unfolding encode
encodes-file name [] some = absurd (omega (some, arith))
encodes-file name (message ∷ messages) some =
    ap (λ bytes. line_end ++ bytes) (encodes-append name (line_end ++ message_lines (message ∷ messages)))
