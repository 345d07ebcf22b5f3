-- Stretches of a text, and the lists in them.
use Rattle.std.specs.Prelude.{ℕ, ◌+◌, ◌-◌, ◌==◌, Bool, not, List, [], ◌∷◌, drop, filter, length, map, take}
use Rattle.std.specs.List.{prefix_len, slice_split, suffix_len, sum_by}
use Rattle.std.specs.Char.{len_utf8}
use Rattle.es_messages.specs.Classes.{is_blank, is_comma}

-- characters of a text, and the offset at which they stand
pub record Characters : Type 0 where
  pub at : ℕ
  pub list : List ℕ

-- how many bytes they take in UTF-8
abbrev pub width : List ℕ → ℕ
width cs = sum_by len_utf8 cs

-- the first so many of them
abbrev pub front : ℕ → Characters → Characters
front n part = record { at = part.at; list = take n part.list }

-- and what follows those
abbrev pub behind : ℕ → Characters → Characters
behind n part = record { at = part.at + width (take n part.list); list = drop n part.list }

-- up to the white space at the end
abbrev pub without_end : Characters → Characters
without_end part = front (length part.list - suffix_len is_blank part.list) part

-- without white space at either end
abbrev pub trimmed : Characters → Characters
trimmed part = without_end (behind (prefix_len is_blank part.list) part)

-- these parts of a text, with a character of one byte between each two, from this offset on
abbrev pub placed : ℕ → List (List ℕ) → List Characters
placed at [] = []
placed at (part ∷ parts) = record { at = at; list = part } ∷ placed (at + width part + 1) parts

abbrev pub holds : List ℕ → Bool
holds cs = not (length cs == 0)

-- the parts between commas, without white space at their ends; empty ones are dropped
abbrev pub listed : Characters → List Characters
listed part = filter (λ one. holds one.list) (map trimmed (placed part.at (slice_split is_comma part.list)))
