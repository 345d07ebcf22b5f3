-- The tree of a program. ECMA-262, 16.1 and 16.2: the items of a script or a module up to the end of the text.
use Rattle.std.specs.Prelude.{◌≡◌, ℕ, Bool, true, false, nat_lt, List, [], ◌∷◌, ◌++◌, length, Some, codes}
use Rattle.std.specs.List.{list_all}
use Rattle.std.specs.Option.{option_map_or}
use Rattle.es_text.specs.declared.token.LexMode.TheVariants.{Division}
use Rattle.es_text.specs.declared.token.SourceType.{SourceType}
use Rattle.es_text.specs.declared.token.SourceType.TheVariants.{Module, Commonjs, Script}
use Rattle.es_text.specs.declared.token.Token.{Token}
use Rattle.es_text.specs.Tokens.{first_offset, token}
use Rattle.es_tree.specs.declared.shape.Shape.{Shape}
use Rattle.es_tree.specs.Shapes.{height_of}
use Rattle.es_grammar.specs.declared.part.Field.TheVariants as f
use Rattle.es_grammar.specs.declared.symbol.Symbol.{Symbol}
use Rattle.es_grammar.specs.declared.symbol.Symbol.TheVariants as s
use Rattle.es_grammar.specs.Conditions.{is_end}
use Rattle.es_grammar.specs.Contexts.{Spot, program_context}
use Rattle.es_grammar.specs.Drafts.{Child, Draft, empty, joined, shape_of, words}
use Rattle.es_grammar.specs.Forms.{kind_called}
use Rattle.es_grammar.specs.Parts.{Not, Deep, Read, greatest_height, with_directives}
use Rattle.es_grammar.specs.Reading.{Reads}

-- what reading a program gives: its tree with the tokens of the text in order, the end last, or the place of
-- the first item that isn't there or is nested too deeply, behind what is skipped before it
pub data Answer : Type 0 where
  Whole : (tree : Shape) (tokens : List Token) → Answer
  Unread : (at : ℕ) → Answer
  TooDeep : (at : ℕ) → Answer

unfoldable pub is_module : SourceType → Bool
is_module Module = true
is_module Commonjs = false
is_module Script = false

unfoldable pub item_of : SourceType → Symbol
item_of Module = s.ModuleItem
item_of Commonjs = s.StatementListItem
item_of Script = s.StatementListItem

-- as ESLint's configuration names them
unfoldable pub source_words : SourceType → List ℕ
source_words Module = codes "module"
source_words Commonjs = codes "commonjs"
source_words Script = codes "script"

-- how many parts with less room may stand one inside the other in an item
abbrev pub whole_room : ℕ
whole_room = 500

-- each item has all the room that there is
abbrev pub item_spot : SourceType → ℕ → Spot
item_spot source at = record { at = at; context = program_context (is_module source); room = whole_room }

abbrev pub is_at_end : List ℕ → ℕ → Bool
is_at_end text at = option_map_or (λ next. is_end next.kind) (token text at Division) false

-- the program counts in the height
abbrev pub is_low : Draft → Bool
is_low item = list_all (λ child. nat_lt (height_of child.shape) greatest_height) item.children

-- the program is the whole text, with its directives
abbrev pub program_of : List ℕ → SourceType → List Child → Shape
program_of text source items =
    shape_of (kind_called "Program") (record { start = 0; end = length text }) (with_directives items)
    (words f.SourceType (source_words source) ∷ [])

-- the items from this byte on, behind those that were read. An item that reads nothing isn't there
pub data ReadsItems (text : List ℕ) (source : SourceType) : ℕ → Draft → Answer → Type 0 where
  at_end : {at : ℕ} {draft : Draft} {end : Token} → token text at Division ≡ Some end → is_end end.kind ≡ true →
      ReadsItems text source at draft (Whole (program_of text source draft.children) (draft.tokens ++ end ∷ []))
  unread : {at : ℕ} {draft : Draft} → is_at_end text at ≡ false → Reads text (item_of source) (item_spot source at) Not →
      ReadsItems text source at draft (Unread (first_offset text at))
  too_deep : {at : ℕ} {draft : Draft} → is_at_end text at ≡ false → Reads text (item_of source) (item_spot source at) Deep →
      ReadsItems text source at draft (TooDeep (first_offset text at))
  nothing_read : {at end : ℕ} {draft item : Draft} → is_at_end text at ≡ false →
      Reads text (item_of source) (item_spot source at) (Read item end) → nat_lt at end ≡ false →
      ReadsItems text source at draft (Unread (first_offset text at))
  too_high : {at end : ℕ} {draft item : Draft} → is_at_end text at ≡ false →
      Reads text (item_of source) (item_spot source at) (Read item end) → nat_lt at end ≡ true → is_low item ≡ false →
      ReadsItems text source at draft (TooDeep (first_offset text at))
  next : {at end : ℕ} {draft item : Draft} {answer : Answer} → is_at_end text at ≡ false →
      Reads text (item_of source) (item_spot source at) (Read item end) → nat_lt at end ≡ true → is_low item ≡ true →
      ReadsItems text source end (joined draft item) answer → ReadsItems text source at draft answer

-- the program that a text is
abbrev pub ReadsProgram : List ℕ → SourceType → Answer → Type 0
ReadsProgram text source answer = ReadsItems text source 0 empty answer

-- a text has one answer at most
abbrev pub AnswersOnce : Type 0
AnswersOnce = (text : List ℕ) (source : SourceType) (one other : Answer) →
    ReadsProgram text source one → ReadsProgram text source other → one ≡ other
