-- What stands between tokens: white space, line ends and comments. ECMA-262, 12.2 to 12.4.
use Rattle.std.specs.Prelude.{ℕ, zero, suc, List, [], ◌∷◌, ◌++◌, length, Bool, true, false, ◌||◌, ◌&&◌, ◌==◌, Option, Some, None, if◌then◌else◌}
use Rattle.std.specs.List.{list_any}
use Rattle.std.specs.Option.{option_map_or}
use Rattle.es_text.specs.declared.token.Comment.{Comment}
use Rattle.es_text.specs.Rest.{offset_of, begins_with, tail, drop_while}
use Rattle.es_text.specs.Characters.{is_in_line, is_line_terminator, is_white_space, asterisk, exclamation_mark, number_sign, slash}

-- one white space, line end or comment: whether it is or holds a line end, and what follows it. Of
-- a comment also whether it is a block comment
pub data PieceKind : Type 0 where
  blank : PieceKind
  comment : (block : Bool) → PieceKind

pub record Piece : Type 0 where
  pub kind : PieceKind
  pub line : Bool
  pub behind : List ℕ

-- behind `/*`: the comment goes up to the next `*/`, and where there is none it is no comment.
-- `line` says whether a line ends in what stands before
unfoldable pub after_block : Bool → List ℕ → Option Piece
after_block line [] = None
after_block line (c ∷ cs) =
    if c == asterisk && begins_with slash cs
    then Some (record { kind = comment true; line = line; behind = tail cs })
    else after_block (line || is_line_terminator c) cs

-- behind `//` or `#!`: the comment goes up to the end of the line, which is no part of it
abbrev pub after_line : List ℕ → Piece
after_line cs = record { kind = comment false; line = false; behind = drop_while is_in_line cs }

-- behind a slash
unfoldable pub after_slash : List ℕ → Option Piece
after_slash [] = None
after_slash (c ∷ cs) =
    if c == slash then Some (after_line cs)
    else if c == asterisk then after_block false cs
    else None

-- The white space, line end or comment with which these characters begin. A comment begins with
-- `#!` only where the text begins (14th edition, 12.5). CR and LF are two pieces here, since both are
-- skipped.
unfoldable pub piece : Bool → List ℕ → Option Piece
piece first [] = None
piece first (c ∷ cs) =
    if is_white_space c || is_line_terminator c
    then Some (record { kind = blank; line = is_line_terminator c; behind = cs })
    else if c == slash then after_slash cs
    else if first && (c == number_sign && begins_with exclamation_mark cs)
    then Some (after_line (tail cs))
    else None

-- as many of them as there are, in order. The number bounds the turns; there are as many at most as
-- characters
unfoldable pub pieces : ℕ → Bool → List ℕ → List Piece
pieces zero first cs = []
pieces (suc turns) first cs =
    option_map_or (λ p. p ∷ pieces turns false p.behind) (piece first cs) []

abbrev pub skipped : Bool → List ℕ → List Piece
skipped first cs = pieces (length cs) first cs

-- what follows all of these, with which the characters begin
abbrev pub behind_all : List ℕ → List Piece → List ℕ
behind_all cs [] = cs
behind_all cs (p ∷ ps) = behind_all p.behind ps

-- whether one of these is or holds a line end
abbrev pub hold_line : List Piece → Bool
hold_line ps = list_any (λ p. p.line) ps

-- the comments among these, with which the characters begin
abbrev pub comment_of : List ℕ → List ℕ → PieceKind → List ℕ → List Comment
comment_of text cs blank behind = []
comment_of text cs (comment block) behind =
    record { block = block; span = record { start = offset_of text cs; end = offset_of text behind } }
    ∷ []

abbrev pub comments_among : List ℕ → List ℕ → List Piece → List Comment
comments_among text cs [] = []
comments_among text cs (p ∷ ps) =
    comment_of text cs p.kind p.behind ++ comments_among text p.behind ps
