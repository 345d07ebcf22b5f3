-- A text and the places in it, in characters. ECMA-262's line terminators end lines, and ESLint's
-- positions count lines and columns from 1.
use Rattle.std.specs.Prelude.{◌≡◌, ℕ, ◌+◌, ◌-◌, Bool, false, not, ◌&&◌, ◌==◌, nat_lt, List, [], ◌∷◌, if◌then◌else◌}
use Rattle.std.specs.Char.{len_utf8}
use Rattle.std.specs.Str.{encode_utf8_all}
use Rattle.bstr.specs.Utf8.{lossy_chars}
use Rattle.es_text.specs.declared.span.Place.{Place}
use Rattle.es_text.specs.Characters.{carriage_return, is_line_terminator, line_feed}

-- the characters of a file, and whether a byte order mark stood in front of them
pub record Text : Type 0 where
  pub characters : List ℕ
  pub marked : Bool

-- U+FEFF, the byte order mark
abbrev pub byte_order_mark : ℕ
byte_order_mark = 0xFEFF

abbrev pub is_marked : List ℕ → Bool
is_marked [] = false
is_marked (c ∷ cs) = c == byte_order_mark

-- the characters without one leading byte order mark
abbrev pub without_mark : List ℕ → List ℕ
without_mark [] = []
without_mark (c ∷ cs) = if c == byte_order_mark then cs else c ∷ cs

-- the text of a file's bytes: U+FFFD stands for each maximal piece that is no UTF-8
abbrev pub text_of : List ℕ → Text
text_of bytes =
    record { characters = without_mark (lossy_chars bytes); marked = is_marked (lossy_chars bytes) }

-- the text has these characters, and no mark stood in front of them
abbrev pub IsPlain : List ℕ → Text → Type 0
IsPlain characters text = (text.characters ≡ characters) × (text.marked ≡ false)

-- the UTF-8 of a text
abbrev pub text_bytes : Text → List ℕ
text_bytes text = encode_utf8_all text.characters

abbrev pub begins_with_line_feed : List ℕ → Bool
begins_with_line_feed [] = false
begins_with_line_feed (c ∷ cs) = c == line_feed

-- a line ends behind this character, where these follow: CR LF is one end, behind the LF
abbrev pub ends_line : ℕ → List ℕ → Bool
ends_line c following =
    is_line_terminator c && not (c == carriage_return && begins_with_line_feed following)

-- how many UTF-16 code units a character takes (ECMA-262, 11.1.1)
abbrev pub len_utf16 : ℕ → ℕ
len_utf16 c = if nat_lt 0xFFFF c then 2 else 1

-- the place behind this character, which stands at a place with these behind it
abbrev pub place_behind : ℕ → List ℕ → Place → Place
place_behind c following place =
    if ends_line c following then record { line = place.line + 1; column = 1 }
    else record { line = place.line; column = place.column + len_utf16 c }

-- from a place on, the place that is so many bytes further into these characters
abbrev pub place_after : Place → List ℕ → ℕ → Place
place_after place [] bytes = place
place_after place (c ∷ cs) bytes =
    if bytes == 0 then place else place_after (place_behind c cs place) cs (bytes - len_utf8 c)

-- the place of an offset of a text
abbrev pub place_at : List ℕ → ℕ → Place
place_at characters at = place_after (record { line = 1; column = 1 }) characters at

-- how many UTF-16 code units stand before an offset of these characters
abbrev pub units_at : List ℕ → ℕ → ℕ
units_at [] at = 0
units_at (c ∷ cs) at = if at == 0 then 0 else len_utf16 c + units_at cs (at - len_utf8 c)
