-- The plain patterns that the pieces of a glob spell: braces stand for each of their choices.
use Rattle.std.specs.Prelude.{ℕ, ◌-◌, Bool, false, ◌&&◌, ◌==◌, nat_le, nat_lt, List, [], ◌∷◌, ◌++◌, length, map, take, Option, None, Some, option_and_then, option_map, if◌then◌else◌}
use Rattle.std.specs.List.{after_first, before_first, flat_map, slice_split}
use Rattle.es_text.specs.Characters.{asterisk, left_brace, slash}
use Rattle.es_globs.specs.declared.piece.Piece.{Piece}
use Rattle.es_globs.specs.declared.piece.Piece.TheVariants.{Class, Escaped, Plain}
use Rattle.es_globs.specs.declared.spelling.Mark.{Mark}
use Rattle.es_globs.specs.declared.spelling.Mark.TheVariants.{Close, Comma, Open, Slash}
use Rattle.es_globs.specs.declared.spelling.TheConstants.{MOST_PATTERNS}
use Rattle.es_globs.specs.Lists.{one_passes}
use Rattle.es_globs.specs.Patterns.{Part}

abbrev pub comma : ℕ
comma = 44

abbrev pub right_brace : ℕ
right_brace = 125

-- the character stands there as it is, or behind a backslash too
abbrev pub is_plain : ℕ → Piece → Bool
is_plain mark (Plain c) = c == mark
is_plain mark (Escaped c) = false
is_plain mark (Class negated members) = false

abbrev pub stands_for : ℕ → Piece → Bool
stands_for mark (Plain c) = c == mark
stands_for mark (Escaped c) = c == mark
stands_for mark (Class negated members) = false

-- what parts pieces. A slash parts a pattern also behind a backslash.
abbrev pub is_mark : Mark → Piece → Bool
is_mark Open piece = is_plain left_brace piece
is_mark Close piece = is_plain right_brace piece
is_mark Comma piece = is_plain comma piece
is_mark Slash piece = stands_for slash piece

-- each of the first lists, with each of the others behind it
abbrev pub joined : {A : Type 0} → List (List A) → List (List A) → List (List A)
joined firsts others = flat_map (λ first. map (λ other. first ++ other) others) firsts

-- behind an opening brace, up to the next one: each choice up to the closing brace, with what follows
-- that. Braces that hold others end nowhere.
abbrev pub segment_patterns : List Piece → Option (List (List Piece))
segment_patterns segment =
    if one_passes (is_mark Close) segment
    then Some (joined (slice_split (is_mark Comma) (before_first (is_mark Close) segment))
    (after_first (is_mark Close) segment ∷ []))
    else None

abbrev pub segments_patterns : List (List Piece) → Option (List (List Piece))
segments_patterns [] = Some ([] ∷ [])
segments_patterns (segment ∷ segments) =
    option_and_then (λ patterns. option_map (joined patterns) (segments_patterns segments))
    (segment_patterns segment)

-- the patterns of what stands in front of the first opening brace, and of the segments behind the braces
abbrev pub spelled : List (List Piece) → Option (List (List Piece))
spelled [] = None
spelled (front ∷ segments) = option_map (joined (front ∷ [])) (segments_patterns segments)

abbrev pub limited : List (List Piece) → Option (List (List Piece))
limited patterns = if nat_le (length patterns) MOST_PATTERNS then Some patterns else None

abbrev pub patterns_of : List Piece → Option (List (List Piece))
patterns_of pieces = option_and_then limited (spelled (slice_split (is_mark Open) pieces))

abbrev pub star : Piece
star = Plain asterisk

-- whether the last piece is a slash, where one stood in front of these
abbrev pub ends_in_slash : Bool → List Piece → Bool
ends_in_slash before [] = before
ends_in_slash before (piece ∷ pieces) = ends_in_slash (is_mark Slash piece) pieces

-- the parts of a pattern. A slash at the end stands for any name below the folder.
abbrev pub parts_of : List Piece → List Part
parts_of pattern =
    if nat_lt 0 (length pattern) && ends_in_slash false pattern
    then slice_split (is_mark Slash) (take (length pattern - 1) pattern) ++ (star ∷ []) ∷ (star ∷ star ∷ []) ∷ []
    else slice_split (is_mark Slash) pattern
