-- Tokens and comments of a file by where they begin. Those of a node are those that begin in its span, since a
-- node's span goes from its first token to its last. The end of the text, the last token, begins in no span.
use Rattle.std.specs.Prelude.{ℕ, Bool, false, not, ◌&&◌, List, Option, codes, find, nat_le, nat_lt, reverse, slice_get, IsTrue}
use Rattle.std.specs.List.{All, filter}
use Rattle.std.specs.Option.{option_map_or}
use Rattle.std.specs.Str.{bytes_eq}
use Rattle.es_text.specs.declared.span.Span.{Span}
use Rattle.es_text.specs.declared.token.Comment.{Comment}
use Rattle.es_text.specs.declared.token.Token.{Token}
use Rattle.es_text.specs.Spans.{is_part}
use Rattle.es_text.specs.Texts.{text_bytes}
use Rattle.es_grammar.specs.Terminals.{text_of}
use Rattle.es_host.specs.Files.{File}

-- a span lies in the text
abbrev pub IsInside : File → Span → Type 0
IsInside file span = IsTrue (is_part (text_bytes file.text) span)

abbrev pub AreInside : File → List Token → Type 0
AreInside file tokens = All (λ token. IsInside file token.span) tokens

-- the inner span begins in the outer one
abbrev pub begins_in : Span → Span → Bool
begins_in outer inner = nat_le outer.start inner.start && nat_lt inner.start outer.end

-- the tokens that begin in a span
abbrev pub tokens_in : File → Span → List Token
tokens_in file span = filter (λ token. begins_in span token.span) file.parsed.tokens

-- the comments that begin in a span
abbrev pub comments_in : File → Span → List Comment
comments_in file span = filter (λ comment. begins_in span comment.span) file.parsed.comments

-- the tokens that begin before an offset
abbrev pub tokens_before : File → ℕ → List Token
tokens_before file offset = filter (λ token. nat_lt token.span.start offset) file.parsed.tokens

-- the tokens that begin at an offset or behind it
abbrev pub tokens_from : File → ℕ → List Token
tokens_from file offset = filter (λ token. nat_le offset token.span.start) file.parsed.tokens

-- the last token that begins before an offset
abbrev pub token_before : File → ℕ → Option Token
token_before file offset = slice_get (reverse (tokens_before file offset)) 0

-- the first token that begins at an offset or behind it
abbrev pub token_after : File → ℕ → Option Token
token_after file offset = slice_get (tokens_from file offset) 0

-- the token is this text
abbrev pub is_token : File → List ℕ → Token → Bool
is_token file text token = bytes_eq (text_of (text_bytes file.text) token) text

-- there is a token, and it is this text
abbrev pub is_some_token : File → List ℕ → Option Token → Bool
is_some_token file text token = option_map_or (is_token file text) token false

-- The token before a span is `(`, and the one behind it is `)`. Or else, with so many tokens left out on both
-- sides, the next ones are.
abbrev pub is_in_pair : File → Span → ℕ → Bool
is_in_pair file span left_out =
    is_some_token file (codes "(") (slice_get (reverse (tokens_before file span.start)) left_out)
    && is_some_token file (codes ")") (slice_get (tokens_from file span.end) left_out)

-- the first token at an offset or behind it that isn't `)`
abbrev pub past_parentheses : File → ℕ → Option Token
past_parentheses file offset = find (λ token. not (is_token file (codes ")") token)) (tokens_from file offset)
