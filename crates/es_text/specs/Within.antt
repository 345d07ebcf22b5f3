-- Tokens and comments lie in their text, which is given in UTF-8.
use Rattle.std.specs.Prelude.{ℕ, ◌≡◌, ◌≤◌, true, All, List, Some}
use Rattle.std.specs.List.{list_all}
use Rattle.std.specs.Str.{IsCharBoundary, IsUtf8}
use Rattle.es_text.specs.declared.token.LexMode.{LexMode}
use Rattle.es_text.specs.declared.token.Token.{Token}
use Rattle.es_text.specs.Spans.{is_part}
use Rattle.es_text.specs.Tokens.{comments_between, first_offset, token}

-- the token lies in the text from this offset on, both of its ends on boundaries of characters
pub record IsWithin (text : List ℕ) (at : ℕ) (found : Token) : Type 0 where
  pub behind : at ≤ found.span.start
  pub order : found.span.start ≤ found.span.end
  pub start : IsCharBoundary text found.span.start
  pub end : IsCharBoundary text found.span.end

-- a token that is read from a boundary of a character on lies in the text from there on
abbrev pub TokensLie : Type 0
TokensLie = (text : List ℕ) (at : ℕ) (m : LexMode) (found : Token) → IsUtf8 text → IsCharBoundary text at →
    token text at m ≡ Some found → IsWithin text at found

-- and so does the offset behind what is skipped there
abbrev pub FirstOffsetsLie : Type 0
FirstOffsetsLie = (text : List ℕ) (at : ℕ) → IsUtf8 text → IsCharBoundary text at →
    (at ≤ first_offset text at) × IsCharBoundary text (first_offset text at)

-- the comments between tokens that end on boundaries of characters lie in the text
abbrev pub CommentsLie : Type 0
CommentsLie = (text : List ℕ) (at : ℕ) (tokens : List Token) → IsUtf8 text → IsCharBoundary text at →
    All (λ one. IsCharBoundary text one.span.end) tokens →
    list_all (λ comment. is_part text comment.span) (comments_between text at tokens) ≡ true
