-- What the code answers, with what follows in place of the cursor.
use Rattle.std.specs.Prelude.{ℕ, ◌==◌, List, Option}
use Rattle.es_text.specs.declared.token.Comment.{Comment}
use Rattle.es_text.specs.Rest.{rest}
use Rattle.es_text.specs.Skipped as spec
use Rattle.es_text.specs.Tokens.{skipped_at}
use Rattle.es_lexer.specs.Cursors.{rest_of}
use Rattle.es_lexer.specs.declared.cursor.Cursor.{Cursor}
use Rattle.es_lexer.specs.declared.skip.PieceKind.{PieceKind}
use Rattle.es_lexer.specs.declared.skip.PieceKind.TheVariants as kind
use Rattle.es_lexer.specs.declared.skip.Piece.{Piece}

abbrev pub kind_of : PieceKind → spec.PieceKind
kind_of kind.Blank = spec.blank
kind_of (kind.Comment block) = spec.comment block

abbrev pub piece_of : Piece → spec.Piece
piece_of piece = record { kind = kind_of piece.kind; line = piece.line; behind = rest_of piece.end }

-- the piece that is skipped at the cursor; only the text's beginning has offset 0
abbrev pub piece_from : Cursor → Option spec.Piece
piece_from cursor = spec.piece (cursor.offset == 0) (rest_of cursor)

-- what is skipped from the cursor on, and what follows it
abbrev pub skipped_from : Cursor → List spec.Piece
skipped_from cursor = skipped_at cursor.text.now cursor.offset

abbrev pub behind_skipped_from : Cursor → List ℕ
behind_skipped_from cursor = spec.behind_all (rest_of cursor) (skipped_from cursor)

-- the comments among what is skipped from this offset of a text on
abbrev pub comments_from : List ℕ → ℕ → List Comment
comments_from text offset = spec.comments_among text (rest text offset) (skipped_at text offset)
