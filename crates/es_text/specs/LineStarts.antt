-- What a source keeps so that it finds places fast: the offsets at which its lines start.
use Rattle.std.specs.Prelude.{◌≡◌, ℕ, ◌+◌, ◌<◌, ◌≤◌, slice_index, length, List, [], ◌∷◌, ◌++◌, drop, Bool, not, ◌&&◌, ◌==◌, nat_lt, encode_utf8, if◌then◌else◌}
use Rattle.std.specs.Char.{len_utf8}
use Rattle.std.specs.Str.{chars}
use Rattle.es_text.specs.Texts.{ends_line}

-- the starts of the lines that start behind a character of these, the first of which stands at this
-- offset
abbrev pub later_starts : ℕ → List ℕ → List ℕ
later_starts at [] = []
later_starts at (c ∷ cs) =
    if ends_line c cs
    then (at + len_utf8 c) ∷ later_starts (at + len_utf8 c) cs
    else later_starts (at + len_utf8 c) cs

abbrev pub line_starts : List ℕ → List ℕ
line_starts characters = 0 ∷ later_starts 0 characters

-- of the line starts, the one at k is the last that is no greater than this offset
pub record IsLineAt (starts : List ℕ) (k at : ℕ) : Type 0 where
  pub within : k < length starts
  pub reached : slice_index starts k ≤ at
  pub beyond : (i : ℕ) → k < i → i < length starts → at < slice_index starts i

-- the byte is a character of ASCII that ends no line
abbrev pub is_plain_byte : ℕ → Bool
is_plain_byte byte = nat_lt byte 128 && (not (byte == 10) && not (byte == 13))

-- one character of the text goes from the first offset up to the second, and whether a line ends with it
pub record IsLineStep (text : List ℕ) (at end : ℕ) (ends : Bool) : Type 0 where
  pub character : ℕ
  pub here : drop at text ≡ encode_utf8 character ++ drop end text
  pub moves : end ≡ at + len_utf8 character
  pub line : ends ≡ ends_line character (chars (drop end text))
