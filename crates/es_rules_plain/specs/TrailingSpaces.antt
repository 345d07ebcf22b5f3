-- White space at the ends of lines. A line ends before each line terminator, and at the end of the text.
use Rattle.std.specs.Prelude.{ℕ, Bool, true, false, not, ◌+◌, ◌-◌, ◌&&◌, List, [], ◌∷◌, ◌++◌, if◌then◌else◌, length, nat_lt}
use Rattle.std.specs.Char.{len_utf8}
use Rattle.std.specs.Str.{encode_utf8_all}
use Rattle.es_text.specs.Characters.{is_line_terminator, is_white_space}
use Rattle.es_text.specs.declared.span.Span.{Span}
use Rattle.es_text.specs.Rest.{drop_while}

-- the line ends before these characters
abbrev pub ends_line : List ℕ → Bool
ends_line [] = true
ends_line (c ∷ cs) = is_line_terminator c

-- the white space between two offsets, if there is any
abbrev pub blank_between : ℕ → ℕ → List Span
blank_between from at = if nat_lt from at then record { start = from; end = at } ∷ [] else []

-- how many bytes the white space takes with which the characters begin
abbrev pub blank_bytes : List ℕ → ℕ
blank_bytes cs = length (encode_utf8_all cs) - length (encode_utf8_all (drop_while is_white_space cs))

-- the white space from an offset on that goes on with the white space at the front of these characters, which stand at
-- another offset, if a line ends behind it
abbrev pub blank_from : ℕ → ℕ → List ℕ → List Span
blank_from from at cs =
    if ends_line (drop_while is_white_space cs) then record { start = from; end = at + blank_bytes cs } ∷ [] else []

-- the white space at the ends of lines among these characters, which stand at this offset: it begins at each white
-- space that has none directly before it
abbrev pub trailing_from : Bool → ℕ → List ℕ → List Span
trailing_from behind_blank at [] = []
trailing_from behind_blank at (c ∷ cs) =
    (if is_white_space c && not behind_blank then blank_from at at (c ∷ cs) else [])
    ++ trailing_from (is_white_space c) (at + len_utf8 c) cs

abbrev pub trailing : List ℕ → List Span
trailing characters = trailing_from false 0 characters
