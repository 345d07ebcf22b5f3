-- Plain patterns, which match names as lists of parts between slashes.
use Rattle.std.specs.Prelude.{ℕ, Bool, false, not, ◌&&◌, ◌||◌, ◌==◌, nat_le, List, [], ◌∷◌, Option, None, Some, if◌then◌else◌}
use Rattle.std.specs.List.{slice_split}
use Rattle.es_text.specs.Characters.{asterisk, hyphen, slash}
use Rattle.es_globs.specs.declared.piece.Piece.{Piece}
use Rattle.es_globs.specs.declared.piece.Piece.TheVariants.{Class, Escaped, Plain}
use Rattle.es_globs.specs.Fitting.{fits}

abbrev pub question_mark : ℕ
question_mark = 63

abbrev pub is_slash : ℕ → Bool
is_slash c = c == slash

-- the character is one of a class's members, or between two of them with a hyphen between
abbrev pub is_member : ℕ → List ℕ → Bool
is_member c [] = false
is_member c (low ∷ []) = c == low
is_member c (low ∷ next ∷ []) = c == low || c == next
is_member c (low ∷ next ∷ high ∷ rest) =
    if next == hyphen then (nat_le low c && nat_le c high) || is_member c rest
    else c == low || is_member c (next ∷ high ∷ rest)

-- `*`, which takes any characters of a part
abbrev pub is_star : Piece → Bool
is_star (Plain c) = c == asterisk
is_star (Escaped c) = false
is_star (Class negated members) = false

-- whether a piece takes this character of a part
abbrev pub takes : Piece → ℕ → Bool
takes (Plain p) c = p == question_mark || c == p
takes (Escaped p) c = c == p
takes (Class negated members) c = if negated then not (is_member c members) else is_member c members

-- a part of a pattern, and one that takes any number of parts
abbrev pub Part : Type 0
Part = List Piece

abbrev pub is_folders : Part → Bool
is_folders [] = false
is_folders (a ∷ []) = false
is_folders (a ∷ b ∷ []) = is_star a && is_star b
is_folders (a ∷ b ∷ c ∷ rest) = false

-- whether a part of a pattern takes a part of a name. An empty one takes none.
abbrev pub takes_part : Part → List ℕ → Bool
takes_part [] part = false
takes_part (piece ∷ pieces) part = fits is_star takes (piece ∷ pieces) part

-- the characters up to the first slash, and those behind it
abbrev pub up_to_slash : List ℕ → List ℕ
up_to_slash [] = []
up_to_slash (c ∷ cs) = if is_slash c then [] else c ∷ up_to_slash cs

abbrev pub behind_slash : List ℕ → Option (List ℕ)
behind_slash [] = None
behind_slash (c ∷ cs) = if is_slash c then Some cs else behind_slash cs

-- the parts of a name, and of what is left of one
abbrev pub name_parts : List ℕ → List (List ℕ)
name_parts name = slice_split is_slash name

abbrev pub parts_left : Option (List ℕ) → List (List ℕ)
parts_left None = []
parts_left (Some rest) = name_parts rest

-- whether a pattern matches a name
abbrev pub pattern_matches : List ℕ → List Part → Bool
pattern_matches name parts = fits is_folders takes_part parts (name_parts name)
