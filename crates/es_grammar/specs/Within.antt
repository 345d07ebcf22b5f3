-- What is read lies in its text, which is given in UTF-8.
use Rattle.std.specs.Prelude.{◌≡◌, ℕ, ◌≤◌, Bool, true, All, List, [], ◌∷◌, length}
use Rattle.std.specs.List.{list_all}
use Rattle.std.specs.Str.{IsCharBoundary, IsUtf8}
use Rattle.es_text.specs.declared.token.SourceType.{SourceType}
use Rattle.es_text.specs.declared.token.Token.{Token}
use Rattle.es_text.specs.Spans.{is_part}
use Rattle.es_text.specs.Within.{IsWithin}
use Rattle.es_tree.specs.Spans.{child_passes, spans_pass}
use Rattle.es_grammar.specs.declared.symbol.Symbol.{Symbol}
use Rattle.es_grammar.specs.Contexts.{Spot}
use Rattle.es_grammar.specs.Drafts.{Child, Draft}
use Rattle.es_grammar.specs.Parts.{Read}
use Rattle.es_grammar.specs.Reading.{Reads}
use Rattle.es_grammar.specs.Trees.{Answer, Whole, Unread, TooDeep, ReadsProgram}

-- tokens that lie one behind the other, from one offset of the text up to another
abbrev pub AreBetween : List ℕ → ℕ → List Token → ℕ → Type 0
AreBetween text from [] to = from ≤ to
AreBetween text from (found ∷ rest) to = IsWithin text from found × AreBetween text found.span.end rest to

-- each of them ends on a boundary of a character
abbrev pub EndsLie : Type 0
EndsLie = (text : List ℕ) (from : ℕ) (tokens : List Token) (to : ℕ) →
    AreBetween text from tokens to → All (λ one. IsCharBoundary text one.span.end) tokens

-- the span of each node lies in the text
abbrev pub children_fit : List ℕ → List Child → Bool
children_fit text children = list_all (λ child. child_passes (is_part text) child.shape) children

-- what was read from one offset of the text up to another, which is a boundary of a character
pub record LiesBetween (text : List ℕ) (from : ℕ) (draft : Draft) (to : ℕ) : Type 0 where
  pub order : from ≤ to
  pub end : IsCharBoundary text to
  pub tokens : AreBetween text from draft.tokens to
  pub children : children_fit text draft.children ≡ true

-- what a symbol reads from a boundary of a character on lies in the text from there on
abbrev pub NodesLie : Type 0
NodesLie = (text : List ℕ) (symbol : Symbol) (spot : Spot) (draft : Draft) (end : ℕ) →
    IsUtf8 text → IsCharBoundary text spot.at → Reads text symbol spot (Read draft end) → LiesBetween text spot.at draft end

-- the tree and the tokens of a program lie in its text, and so does the place of what is no program
abbrev pub AnswerLies : List ℕ → Answer → Type 0
AnswerLies text (Whole tree tokens) = (spans_pass (is_part text) tree ≡ true) × AreBetween text 0 tokens (length text)
AnswerLies text (Unread at) = IsCharBoundary text at
AnswerLies text (TooDeep at) = IsCharBoundary text at

abbrev pub AnswersLie : Type 0
AnswersLie = (text : List ℕ) (source : SourceType) (answer : Answer) →
    IsUtf8 text → ReadsProgram text source answer → AnswerLies text answer
