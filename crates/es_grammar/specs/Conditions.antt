-- The conditions of the grammar: look-aheads, what the context allows, and what was read before.
use Prim.Native.String.{String}
use Rattle.std.specs.Prelude.{ℕ, Bool, true, false, not, ◌&&◌, ◌||◌, ◌==◌, nat_lt, List, [], ◌∷◌, length, Option, Some, None, codes}
use Rattle.std.specs.List.{list_any}
use Rattle.std.specs.Option.{option_and_then, option_map_or}
use Rattle.std.specs.Str.{bytes_eq}
use Rattle.es_text.specs.declared.token.LexMode.TheVariants.{Division}
use Rattle.es_text.specs.declared.token.Token.{Token}
use Rattle.es_text.specs.declared.token.TokenKind.{TokenKind}
use Rattle.es_text.specs.declared.token.TokenKind.TheVariants as kind
use Rattle.es_text.specs.Skipped.{hold_line}
use Rattle.es_text.specs.Tokens.{skipped_at, token}
use Rattle.es_tree.specs.declared.shape.Shape.{Shape, out-Shape}
use Rattle.es_grammar.specs.declared.part.Condition.{Condition}
use Rattle.es_grammar.specs.declared.part.Condition.TheVariants as c
use Rattle.es_grammar.specs.declared.part.Field.{Field}
use Rattle.es_grammar.specs.declared.part.Field.TheVariants as f
use Rattle.es_grammar.specs.Contexts.{Spot}
use Rattle.es_grammar.specs.Drafts.{Child, Draft, Setting, first_start, name_of, index_in, value_in, words_of}
use Rattle.es_grammar.specs.Forms.{kind_called}
use Rattle.es_grammar.specs.Terminals.{text_of}

-- no line ends before the next token
abbrev pub is_on_line : List ℕ → ℕ → Bool
is_on_line text at = not (hold_line (skipped_at text at))

-- the next token is one of these
abbrev pub is_next : List ℕ → ℕ → List String → Bool
is_next text at texts =
    option_map_or (λ next. list_any (λ one. bytes_eq (codes one) (text_of text next)) texts) (token text at Division) false

-- the next token is this one, and on its line the one behind it is that one
abbrev pub are_next : List ℕ → ℕ → String → String → Bool
are_next text at first second =
    is_next text at (first ∷ [])
    && option_map_or (λ next. is_on_line text next.span.end && is_next text next.span.end (second ∷ []))
    (token text at Division) false

abbrev pub is_end : TokenKind → Bool
is_end kind.End = true
is_end other = false

-- 12.9.1: a semicolon may be left out before this token
abbrev pub allows_no_semicolon : List ℕ → Token → Bool
allows_no_semicolon text next = is_end next.kind || next.line_before || bytes_eq (text_of text next) (codes "}")

-- the last node that was read
abbrev pub last_shape : List Child → Option Shape
last_shape [] = None
last_shape (only ∷ []) = only.shape
last_shape (first ∷ next ∷ rest) = last_shape (next ∷ rest)

abbrev pub first_shape : List Child → Option Shape
first_shape [] = None
first_shape (first ∷ rest) = first.shape

abbrev pub is_kind : String → Shape → Bool
is_kind name shape = (out-Shape shape).kind == kind_called name

-- the words of this attribute of the node are these
abbrev pub has_words : Field → String → Shape → Bool
has_words field text shape =
    option_map_or (bytes_eq (codes text))
    (option_and_then words_of (value_in (index_in (out-Shape shape).kind (Some field)) (out-Shape shape).attributes)) false

-- an Identifier or a MemberExpression, in parentheses or not; one in a chain is a ChainExpression
unfoldable pub is_plain_target : Shape → Bool
is_plain_target shape = is_kind "Identifier" shape || is_kind "MemberExpression" shape

unfoldable pub is_pattern : Shape → Bool
is_pattern shape = is_kind "ArrayPattern" shape || is_kind "ObjectPattern" shape

unfoldable pub is_or_or_and : Shape → Bool
is_or_or_and shape =
    is_kind "LogicalExpression" shape && (has_words f.Operator "||" shape || has_words f.Operator "&&" shape)

unfoldable pub is_unary : Shape → Bool
is_unary shape = is_kind "UnaryExpression" shape || is_kind "AwaitExpression" shape

-- 15.7.1: the word `constructor`, or a text of that value
unfoldable pub is_named_constructor : Shape → Bool
is_named_constructor shape =
    (is_kind "Identifier" shape && has_words f.Name "constructor" shape)
    || (is_kind "Literal" shape && has_words f.Value "constructor" shape)

abbrev pub is_set : Field → List Setting → Bool
is_set field settings = list_any (λ setting. bytes_eq (name_of setting.field) (name_of field)) settings

-- the last node that was read is so
abbrev pub is_last : (Shape → Bool) → Draft → Bool
is_last test draft = option_map_or test (last_shape draft.children) false

-- the last node that was read is so, and no parenthesis stands before it
abbrev pub is_bare : (Shape → Bool) → Draft → Bool
is_bare test draft =
    is_last (λ shape. test shape && (out-Shape shape).span.start == first_start draft.tokens) draft

-- the condition holds at this byte, behind what was read
unfoldable pub holds : List ℕ → Spot → Draft → Condition → Bool
holds text spot draft c.SameLine = is_on_line text spot.at
holds text spot draft c.BracketNext = is_next text spot.at ("[" ∷ "{" ∷ [])
holds text spot draft c.NoBracketNext = not (is_next text spot.at ("[" ∷ "{" ∷ []))
holds text spot draft c.NoBraceNext = not (is_next text spot.at ("{" ∷ []))
holds text spot draft c.CommaNext = is_next text spot.at ("," ∷ [])
holds text spot draft c.NoCommaNext = not (is_next text spot.at ("," ∷ []))
holds text spot draft c.InNext = is_next text spot.at ("in" ∷ [])
holds text spot draft c.MemberNext = is_next text spot.at ("." ∷ "[" ∷ [])
holds text spot draft c.MemberOrCallNext = is_next text spot.at ("." ∷ "[" ∷ "(" ∷ [])
holds text spot draft c.NoImportExpressionNext = not (is_next text spot.at ("(" ∷ "." ∷ []))
holds text spot draft c.ExpressionNext =
    not (is_next text spot.at ("{" ∷ "function" ∷ "class" ∷ []) || are_next text spot.at "async" "function")
holds text spot draft c.SemicolonLeftOut = option_map_or (allows_no_semicolon text) (token text spot.at Division) false
holds text spot draft c.AwaitIsOperator = spot.context.await_operator
holds text spot draft c.YieldIsOperator = spot.context.yield_operator
holds text spot draft c.InIsOperator = spot.context.in_operator
holds text spot draft c.PlainTarget = is_last is_plain_target draft
holds text spot draft c.PatternHasValue =
    not (option_map_or is_pattern (first_shape draft.children) false) || nat_lt 1 (length draft.children)
holds text spot draft c.NoLogicalOperator = not (is_bare is_or_or_and draft)
holds text spot draft c.NoUnaryOperator = not (is_bare is_unary draft)
holds text spot draft c.ConstructorKey = is_last is_named_constructor draft && not (is_set f.Computed draft.settings)
