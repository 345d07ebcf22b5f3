-- The pieces that a glob is written in, from left to right: an escape, a class, or a character.
use Rattle.std.specs.Prelude.{ℕ, zero, suc, ◌+◌, Bool, true, false, ◌==◌, List, [], ◌∷◌, Option, None, Some, option_and_then, option_map, if◌then◌else◌}
use Rattle.std.specs.List.{before_first, position_or_len}
use Rattle.es_text.specs.Characters.{backslash, exclamation_mark, left_bracket, right_bracket}
use Rattle.es_globs.specs.declared.piece.Piece.{Piece}
use Rattle.es_globs.specs.declared.piece.Piece.TheVariants.{Class, Escaped, Plain}
use Rattle.es_globs.specs.Lists.{one_passes}
use Rattle.es_globs.specs.declared.reading.Taken.{Taken}

-- what the characters between brackets stand for, if there is one behind a `!`
abbrev pub negated_class : List ℕ → Option Piece
negated_class [] = None
negated_class (c ∷ cs) = Some (Class true (c ∷ cs))

abbrev pub class_of : List ℕ → Option Piece
class_of [] = None
class_of (c ∷ cs) = if c == exclamation_mark then negated_class cs else Some (Class false (c ∷ cs))

abbrev pub is_right_bracket : ℕ → Bool
is_right_bracket c = c == right_bracket

-- behind `[`: what stands up to the first `]`
abbrev pub class_in : List ℕ → Option Taken
class_in cs =
    if one_passes is_right_bracket cs
    then option_map (λ piece. record { piece = piece; more = position_or_len is_right_bracket cs + 1 })
    (class_of (before_first is_right_bracket cs))
    else None

-- behind `\`: a character that stands for itself
abbrev pub escaped_in : List ℕ → Option Taken
escaped_in [] = None
escaped_in (c ∷ cs) = Some (record { piece = Escaped c; more = 1 })

-- the piece that begins with this character, where these follow
abbrev pub piece_at : ℕ → List ℕ → Option Taken
piece_at c cs =
    if c == backslash then escaped_in cs
    else if c == left_bracket then class_in cs
    else Some (record { piece = Plain c; more = 0 })

-- the pieces of a text, of which so many characters belong to an earlier one
abbrev pub pieces_behind : ℕ → List ℕ → Option (List Piece)
pieces_behind skipped [] = Some []
pieces_behind (suc skipped) (c ∷ cs) = pieces_behind skipped cs
pieces_behind zero (c ∷ cs) =
    option_and_then (λ taken. option_map (λ others. taken.piece ∷ others) (pieces_behind taken.more cs))
    (piece_at c cs)

abbrev pub pieces_of : List ℕ → Option (List Piece)
pieces_of text = pieces_behind 0 text
