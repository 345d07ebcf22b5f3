-- The tokens that the grammar reads. ECMA-262, 12.6 to 12.8.
use Prim.Native.String.{String}
use Rattle.std.specs.Prelude.{ℕ, Bool, not, ◌&&◌, ◌||◌, ◌==◌, List, [], ◌∷◌, ◌++◌, map, Option, Some, None, position, slice_get, slice_range, codes, if◌then◌else◌}
use Rattle.std.specs.List.{list_any}
use Rattle.std.specs.Option.{option_map_or, unwrap_or}
use Rattle.std.specs.Str.{bytes_eq}
use Rattle.es_tables.specs.Words.{keyword_words, punctuator_words}
use Rattle.es_text.specs.declared.token.LexMode.{LexMode}
use Rattle.es_text.specs.declared.token.LexMode.TheVariants as mode
use Rattle.es_text.specs.declared.token.Token.{Token}
use Rattle.es_text.specs.declared.token.TokenKind.{TokenKind}
use Rattle.es_text.specs.declared.token.TokenKind.TheVariants as kind
use Rattle.es_text.specs.Tokens.{token}
use Rattle.es_grammar.specs.declared.context.Context.{Context}
use Rattle.es_grammar.specs.declared.part.Terminal.{Terminal}
use Rattle.es_grammar.specs.declared.part.Terminal.TheVariants as t

-- the words that the grammar names and doesn't reserve everywhere
abbrev pub contextual_words : List (List ℕ)
contextual_words =
    map codes ("await" ∷ "async" ∷ "static" ∷ "get" ∷ "set" ∷ "of" ∷ "from" ∷ "as" ∷ "target" ∷ "meta" ∷ [])

-- the texts of single tokens, in the order in which their codes count them
abbrev pub spellings : List (List ℕ)
spellings = punctuator_words ++ keyword_words ++ contextual_words

-- the terminal that reads the token of this text
abbrev pub spelled : String → Terminal
spelled text = t.Spelled (unwrap_or (position (bytes_eq (codes text)) spellings) 0)

-- the texts of the tokens that a terminal reads, where it names them
unfoldable pub texts_of : Terminal → List (List ℕ)
texts_of (t.Spelled code) = option_map_or (λ text. text ∷ []) (slice_get spellings code) []
texts_of t.AccessorWord = map codes ("get" ∷ "set" ∷ [])
texts_of t.DeclarationWord = map codes ("var" ∷ "let" ∷ "const" ∷ [])
texts_of t.AssignmentOperator =
    map codes ("=" ∷ "+=" ∷ "-=" ∷ "*=" ∷ "/=" ∷ "%=" ∷ "**=" ∷ "<<=" ∷ ">>=" ∷ ">>>=" ∷ "&=" ∷ "|=" ∷ "^="
    ∷ "&&=" ∷ "||=" ∷ "??=" ∷ [])
texts_of t.EqualityOperator = map codes ("==" ∷ "!=" ∷ "===" ∷ "!==" ∷ [])
texts_of t.RelationalOperator = map codes ("<" ∷ ">" ∷ "<=" ∷ ">=" ∷ "instanceof" ∷ [])
texts_of t.ShiftOperator = map codes ("<<" ∷ ">>" ∷ ">>>" ∷ [])
texts_of t.AdditiveOperator = map codes ("+" ∷ "-" ∷ [])
texts_of t.MultiplicativeOperator = map codes ("*" ∷ "/" ∷ "%" ∷ [])
texts_of t.UnaryOperator = map codes ("delete" ∷ "void" ∷ "typeof" ∷ "+" ∷ "-" ∷ "~" ∷ "!" ∷ [])
texts_of t.UpdateOperator = map codes ("++" ∷ "--" ∷ [])
texts_of other = []

-- 12.6.2, and `let` and `yield`, which strict code reserves. `await` is reserved in a module and wherever it
-- is an operator
abbrev pub is_reserved : Context → List ℕ → Bool
is_reserved context text =
    list_any (bytes_eq text) keyword_words
    || (bytes_eq text (codes "await") && (context.in_module || context.await_operator))

-- the kinds of tokens in their order
unfoldable pub kind_index : TokenKind → ℕ
kind_index kind.Word = 0
kind_index kind.Private = 1
kind_index (kind.Punctuator code) = 2
kind_index kind.Number = 3
kind_index kind.Text = 4
kind_index kind.RegExp = 5
kind_index kind.Full = 6
kind_index kind.Head = 7
kind_index kind.Middle = 8
kind_index kind.Tail = 9
kind_index kind.End = 10

abbrev pub same_kind : TokenKind → TokenKind → Bool
same_kind one other = kind_index one == kind_index other

-- the terminal reads tokens of this kind and text
unfoldable pub reads_kind : Context → Terminal → TokenKind → List ℕ → Bool
reads_kind context t.Word k text = same_kind k kind.Word
reads_kind context t.Name k text = same_kind k kind.Word && not (is_reserved context text)
reads_kind context t.Private k text = same_kind k kind.Private
reads_kind context t.Number k text = same_kind k kind.Number
reads_kind context t.Text k text = same_kind k kind.Text
reads_kind context t.RegExp k text = same_kind k kind.RegExp
reads_kind context t.Full k text = same_kind k kind.Full
reads_kind context t.Head k text = same_kind k kind.Head
reads_kind context t.Middle k text = same_kind k kind.Middle
reads_kind context t.Tail k text = same_kind k kind.Tail
reads_kind context other k text = list_any (bytes_eq text) (texts_of other)

-- a regular expression is read where an operand may begin, and a later part of a template where the
-- template goes on
unfoldable pub mode_of : Terminal → LexMode
mode_of t.RegExp = mode.RegExp
mode_of t.Middle = mode.TemplateTail
mode_of t.Tail = mode.TemplateTail
mode_of other = mode.Division

-- the bytes of a token
abbrev pub text_of : List ℕ → Token → List ℕ
text_of text found = slice_range text found.span.start found.span.end

-- the token, if the terminal reads it
abbrev pub read_by : List ℕ → Context → Terminal → Option Token → Option Token
read_by text context terminal None = None
read_by text context terminal (Some found) =
    if reads_kind context terminal found.kind (text_of text found) then Some found else None

-- the token that the terminal reads from this byte on
unfoldable pub terminal_at : List ℕ → Context → Terminal → ℕ → Option Token
terminal_at text context terminal at = read_by text context terminal (token text at (mode_of terminal))
