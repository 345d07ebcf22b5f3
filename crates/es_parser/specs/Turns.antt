-- How far a reading came, and what a turn gives behind what was read before it.
use Rattle.std.specs.Prelude.{◌≡◌, ℕ, List, Bool, true, false, Option, Some, None}
use Rattle.es_grammar.specs.declared.context.Spot.{Spot}
use Rattle.es_grammar.specs.declared.draft.Draft.{Draft}
use Rattle.es_grammar.specs.declared.draft.Outcome.{Outcome}
use Rattle.es_grammar.specs.declared.draft.Outcome.TheVariants.{Not, Deep, Read}
use Rattle.es_grammar.specs.declared.part.Field.{Field}
use Rattle.es_grammar.specs.declared.part.Product.{Product}
use Rattle.es_grammar.specs.declared.symbol.Symbol.{Symbol}
use Rattle.es_grammar.specs.Drafts.{empty, joined}
use Rattle.es_grammar.specs.Firsts.{CanBegin}
use Rattle.es_grammar.specs.Forms.{Row, Turns, Form, Choice, More, Commas, Behind}
use Rattle.es_grammar.specs.Grammar.{rule_of}
use Rattle.es_grammar.specs.Parts.{after, finish}
use Rattle.es_grammar.specs.Reading.{Reads, ReadsChoice}
use Rattle.es_parser.specs.declared.reached.Reached.{Reached}
use Rattle.es_parser.specs.declared.reached.Reached.TheVariants.{Nothing, TooDeep, At}

-- the outcome of a reading that came so far, with the draft of what was read
abbrev pub outcome_of : Reached → Draft → Outcome
outcome_of Nothing draft = Not
outcome_of TooDeep draft = Deep
outcome_of (At end) draft = Read draft end

-- what was read before, and then more
abbrev pub joined_to : Draft → Outcome → Outcome
joined_to draft Not = Not
joined_to draft Deep = Deep
joined_to draft (Read turn end) = Read (joined draft turn) end

-- what a turn gives whose row makes this of what its parts gave. One that is taking takes what was
-- read before into what it makes
abbrev pub turn_of : Bool → Draft → Product → Outcome → Outcome
turn_of true draft makes parts = finish makes draft parts
turn_of false draft makes parts = joined_to draft (finish makes empty parts)

-- none of the rows reads, and the next token can begin none
pub record IsOver (text : List ℕ) (rows : List Row) (spot : Spot) : Type 0 where
  pub reads : (seed : Draft) → ReadsChoice text rows spot seed Not
  pub never : CanBegin text spot rows → ⊥

-- the symbol at the head of a rule, with turns behind it
abbrev pub head_of : Form → Option Symbol
head_of (Choice rows) = None
head_of (More turns) = None
head_of (Commas rows) = None
head_of (Behind head turns) = Some head

-- what a symbol gives whose children go into this field, behind what was read before it
abbrev pub ReadsInto :
    List ℕ → Symbol → Spot → Option Field → Draft → Outcome → Type 0
ReadsInto text symbol spot field draft o =
    (q : Outcome) × Reads text symbol spot q × (o ≡ after draft field q)

-- what a symbol gives by a rule with a head, where that gave this
abbrev pub ReadsBehind : List ℕ → Symbol → Spot → Outcome → Outcome → Type 0
ReadsBehind text symbol spot first o =
    (head : Symbol) (turns : Turns) → rule_of symbol ≡ Behind head turns
    → Reads text head spot first → Reads text symbol spot o
