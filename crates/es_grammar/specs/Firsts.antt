-- Which tokens can begin a symbol: the least sets that follow from the rules without their look-aheads and
-- conditions.
use Rattle.std.specs.Prelude.{◌≡◌, ℕ, List, [], ◌∷◌, map, Bool, true, false, IsSome, Option}
use Rattle.es_grammar.specs.declared.context.Change.{Change}
use Rattle.es_grammar.specs.declared.part.Field.{Field}
use Rattle.es_grammar.specs.declared.part.Part.{Part}
use Rattle.es_grammar.specs.declared.part.Part.TheVariants as part
use Rattle.es_grammar.specs.declared.part.Terminal.{Terminal}
use Rattle.es_grammar.specs.declared.symbol.Symbol.{Symbol}
use Rattle.es_grammar.specs.Contexts.{Spot}
use Rattle.es_grammar.specs.Forms.{Row, Form, Choice, More, Commas, Behind, read}
use Rattle.es_grammar.specs.Grammar.{rule_of}
use Rattle.es_grammar.specs.Terminals.{terminal_at}
use Rattle.std.specs.Prelude.{Option}

-- look-aheads, conditions and what is only noted read nothing
unfoldable pub reads_nothing : Part → Bool
reads_nothing (part.Token terminal) = false
reads_nothing (part.Words terminal field) = false
reads_nothing (part.Leaf terminal kind field) = false
reads_nothing (part.Symbol symbol change field) = false
reads_nothing (part.Deeper symbol change field) = false
reads_nothing other = true

-- the ways to read by a rule, up to its first turn
abbrev pub ways_of : List Row → List (List Part)
ways_of rows = map (λ row. row.parts) rows

abbrev pub ways : Form → List (List Part)
ways (Choice rows) = ways_of rows
ways (More turns) = [] ∷ ways_of turns.rows
ways (Commas rows) = [] ∷ ways_of rows
ways (Behind head turns) = (read head ∷ []) ∷ map (λ row. read head ∷ row.parts) turns.rows

mutual
  -- the symbol can read nothing, by one of its ways
  pub data Empty : Symbol → Type 0 where
    empty_by : {symbol : Symbol} → EmptyOne (ways (rule_of symbol)) → Empty symbol

  pub data EmptyOne : List (List Part) → Type 0 where
    this_empty : {parts : List Part} {rest : List (List Part)} → EmptyParts parts → EmptyOne (parts ∷ rest)
    later_empty : {parts : List Part} {rest : List (List Part)} → EmptyOne rest → EmptyOne (parts ∷ rest)

  pub data EmptyParts : List Part → Type 0 where
    no_parts : EmptyParts []
    empty_parts : {p : Part} {parts : List Part} → EmptyPart p → EmptyParts parts → EmptyParts (p ∷ parts)

  pub data EmptyPart : Part → Type 0 where
    empty_symbol : {s : Symbol} {change : Change} {field : Option Field} → Empty s → EmptyPart (part.Symbol s change field)
    empty_deeper : {s : Symbol} {change : Change} {field : Option Field} → Empty s → EmptyPart (part.Deeper s change field)
    reads_none : {p : Part} → reads_nothing p ≡ true → EmptyPart p

mutual
  -- a token that the terminal reads can begin the symbol, by one of its ways
  pub data Begins (terminal : Terminal) : Symbol → Type 0 where
    begins_by : {symbol : Symbol} → BeginsOne terminal (ways (rule_of symbol)) → Begins terminal symbol

  pub data BeginsOne (terminal : Terminal) : List (List Part) → Type 0 where
    this_begins : {parts : List Part} {rest : List (List Part)} → BeginsParts terminal parts → BeginsOne terminal (parts ∷ rest)
    later_begins : {parts : List Part} {rest : List (List Part)} → BeginsOne terminal rest → BeginsOne terminal (parts ∷ rest)

  pub data BeginsParts (terminal : Terminal) : List Part → Type 0 where
    at_once : {p : Part} {parts : List Part} → BeginsPart terminal p → BeginsParts terminal (p ∷ parts)
    behind_empty : {p : Part} {parts : List Part} → EmptyPart p → BeginsParts terminal parts → BeginsParts terminal (p ∷ parts)

  pub data BeginsPart (terminal : Terminal) : Part → Type 0 where
    token_begins : BeginsPart terminal (part.Token terminal)
    words_begin : {field : Field} → BeginsPart terminal (part.Words terminal field)
    leaf_begins : {kind : ℕ} {field : Option Field} → BeginsPart terminal (part.Leaf terminal kind field)
    symbol_begins : {s : Symbol} {change : Change} {field : Option Field} → Begins terminal s → BeginsPart terminal (part.Symbol s change field)
    deeper_begins : {s : Symbol} {change : Change} {field : Option Field} → Begins terminal s → BeginsPart terminal (part.Deeper s change field)

-- the rows of which an option, a repetition or a list consists
abbrev pub turn_rows : Form → List Row
turn_rows (Choice rows) = []
turn_rows (More turns) = turns.rows
turn_rows (Commas rows) = rows
turn_rows (Behind head turns) = turns.rows

-- a token that the terminal reads can begin a turn of the symbol's rule
abbrev pub BeginsTurn : Terminal → Symbol → Type 0
BeginsTurn terminal symbol = BeginsOne terminal (ways_of (turn_rows (rule_of symbol)))

-- the next token can begin one of the rows
pub data CanBegin (text : List ℕ) (spot : Spot) (rows : List Row) : Type 0 where
  next_begins : (terminal : Terminal) → BeginsOne terminal (ways_of rows) → IsSome (terminal_at text spot.context terminal spot.at) →
      CanBegin text spot rows
