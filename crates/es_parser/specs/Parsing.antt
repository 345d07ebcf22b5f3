-- What parsing a text gives.
use Rattle.std.specs.Prelude.{◌≡◌, ℕ, List, true}
use Rattle.std.specs.List.{list_all}
use Rattle.std.specs.Str.{IsCharBoundary}
use Rattle.es_text.specs.declared.token.SourceType.{SourceType}
use Rattle.es_text.specs.declared.token.Token.{Token}
use Rattle.es_text.specs.Spans.{LiesIn, is_part}
use Rattle.es_text.specs.Tokens.{comments_between}
use Rattle.es_tree.specs.declared.parsed.Parsed.{Parsed}
use Rattle.es_tree.specs.declared.shape.Shape.{Shape}
use Rattle.es_tree.specs.Numbering.{rows_of}
use Rattle.es_tree.specs.Rows.{Row}
use Rattle.es_early.specs.declared.code.Early.{Early}
use Rattle.es_early.specs.Errors.{HasNone, IsFirst}
use Rattle.es_grammar.specs.Trees as reading
use Rattle.es_grammar.specs.Trees.{ReadsProgram}
use Rattle.es_parser.specs.declared.parser.ParseFault.{ParseFault}
use Rattle.es_parser.specs.declared.parser.ParseFault.TheVariants as fault

-- the tree of a text with its tokens, the end last; or the place of the first item that isn't there or is
-- nested too deeply; or the first early error
pub data Parsing : Type 0 where
  Whole : (tree : Shape) (tokens : List Token) → Parsing
  Unread : (at : ℕ) → Parsing
  Deep : (at : ℕ) → Parsing
  Wrong : (early : Early) → Parsing

pub data Parses (text : List ℕ) (source : SourceType) (parsing : Parsing) : Type 0 where
  whole : (tree : Shape) (tokens : List Token) → ReadsProgram text source (reading.Whole tree tokens) →
      HasNone (rows_of tree) source → parsing ≡ Whole tree tokens → Parses text source parsing
  wrong : (tree : Shape) (tokens : List Token) (early : Early) → ReadsProgram text source (reading.Whole tree tokens) →
      IsFirst (rows_of tree) source early → parsing ≡ Wrong early → Parses text source parsing
  unread : (at : ℕ) → ReadsProgram text source (reading.Unread at) → parsing ≡ Unread at → Parses text source parsing
  deep : (at : ℕ) → ReadsProgram text source (reading.TooDeep at) → parsing ≡ Deep at → Parses text source parsing

-- a text is parsed in one way at most
abbrev pub ParsesOnce : Type 0
ParsesOnce = (text : List ℕ) (source : SourceType) (one other : Parsing) →
    Parses text source one → Parses text source other → one ≡ other

-- what is parsed is the text's: its tree, its tokens, and the comments between them
pub record IsParsed (text : List ℕ) (source : SourceType) (parsed : Parsed) : Type 0 where
  pub tree : Shape
  pub parses : Parses text source (Whole tree parsed.tokens)
  pub rows : parsed.tree ≡ rows_of tree
  pub comments : parsed.comments ≡ comments_between text 0 parsed.tokens

-- the fault is the text's
abbrev pub IsFault : List ℕ → SourceType → ParseFault → Type 0
IsFault text source (fault.Unread at) = Parses text source (Unread at)
IsFault text source (fault.Deep at) = Parses text source (Deep at)
IsFault text source (fault.Early code span) = Parses text source (Wrong (record { code = code; span = span }))
IsFault text source fault.NoMemory = Unit {0}

-- the fault is the first early error of a tree
abbrev pub IsFirstFault : List Row → SourceType → ParseFault → Type 0
IsFirstFault rows source (fault.Unread at) = ⊥
IsFirstFault rows source (fault.Deep at) = ⊥
IsFirstFault rows source (fault.Early code span) = IsFirst rows source (record { code = code; span = span })
IsFirstFault rows source fault.NoMemory = Unit {0}

-- each node's span lies in the text
abbrev pub AreInText : List ℕ → List Row → Type 0
AreInText text rows = list_all (λ row. is_part text row.span) rows ≡ true

-- what the fault names lies in the text
abbrev pub IsInText : List ℕ → ParseFault → Type 0
IsInText text (fault.Unread at) = IsCharBoundary text at
IsInText text (fault.Deep at) = IsCharBoundary text at
IsInText text (fault.Early code span) = LiesIn text span
IsInText text fault.NoMemory = Unit {0}
