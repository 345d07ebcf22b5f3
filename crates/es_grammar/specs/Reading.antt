-- What a symbol reads: the least relation with these rules. A text is given in UTF-8.
use Rattle.std.specs.Prelude.{◌≡◌, ℕ, ◌+◌, List, [], ◌∷◌, true, false, Option, Some, None, if◌then◌else◌}
use Rattle.es_text.specs.declared.token.Token.{Token}
use Rattle.es_grammar.specs.declared.context.Change.{Change}
use Rattle.es_grammar.specs.declared.part.Field.{Field}
use Rattle.es_grammar.specs.declared.part.Part.{Part}
use Rattle.es_grammar.specs.declared.part.Part.TheVariants as part
use Rattle.es_grammar.specs.declared.symbol.Symbol.{Symbol}
use Rattle.es_grammar.specs.Contexts.{Spot, in_change, moved}
use Rattle.es_grammar.specs.Drafts.{Draft, empty, joined}
use Rattle.es_grammar.specs.Firsts.{CanBegin}
use Rattle.es_grammar.specs.Forms.{Row, Turns, Choice, More, Commas, Behind}
use Rattle.es_grammar.specs.Grammar.{rule_of}
use Rattle.es_grammar.specs.Parts.{Outcome, Not, Deep, Read, after, all_hold, finish, is_last_turn, is_not, is_read, plainly, with_token}
use Rattle.es_grammar.specs.Terminals.{spelled, terminal_at}

-- what a turn's rows take from before, and what was read behind a turn
abbrev pub taken : Turns → Draft → Draft
taken turns draft = if turns.taking then draft else empty

abbrev pub grown : Turns → Draft → Draft → Draft
grown turns draft turn = if turns.taking then turn else joined draft turn

-- the comma that is the next token
abbrev pub comma_at : List ℕ → Spot → Option Token
comma_at text spot = terminal_at text spot.context (spelled ",") spot.at

mutual
  -- a symbol reads by its rule
  pub data Reads (text : List ℕ) : Symbol → Spot → Outcome → Type 0 where
    by_choice : {symbol : Symbol} {spot : Spot} {o : Outcome} {rows : List Row} →
        rule_of symbol ≡ Choice rows → ReadsChoice text rows spot empty o → Reads text symbol spot o
    by_turns : {symbol : Symbol} {spot : Spot} {o : Outcome} {turns : Turns} →
        rule_of symbol ≡ More turns → ReadsTurns text turns spot empty o → Reads text symbol spot o
    by_commas : {symbol : Symbol} {spot : Spot} {o : Outcome} {rows : List Row} →
        rule_of symbol ≡ Commas rows → ReadsCommas text rows spot empty o → Reads text symbol spot o
    behind : {symbol head : Symbol} {spot : Spot} {o : Outcome} {turns : Turns} {draft : Draft} {end : ℕ} →
        rule_of symbol ≡ Behind head turns → Reads text head spot (Read draft end) →
        ReadsTurns text turns (moved spot end) draft o → Reads text symbol spot o
    headless : {symbol head : Symbol} {spot : Spot} {o : Outcome} {turns : Turns} →
        rule_of symbol ≡ Behind head turns → Reads text head spot o → is_read o ≡ false → Reads text symbol spot o

  -- an option or a repetition, behind the draft of what was read. It is left where a condition fails. Where no
  -- row reads, it ends, unless the next token can begin one
  pub data ReadsTurns (text : List ℕ) : Turns → Spot → Draft → Outcome → Type 0 where
    left : {turns : Turns} {spot : Spot} {draft : Draft} →
        all_hold text spot draft turns.conditions ≡ false → ReadsTurns text turns spot draft (Read draft spot.at)
    over : {turns : Turns} {spot : Spot} {draft : Draft} →
        all_hold text spot draft turns.conditions ≡ true → ReadsChoice text turns.rows spot (taken turns draft) Not →
        (CanBegin text spot turns.rows → ⊥) → ReadsTurns text turns spot draft (Read draft spot.at)
    stuck : {turns : Turns} {spot : Spot} {draft : Draft} →
        all_hold text spot draft turns.conditions ≡ true → ReadsChoice text turns.rows spot (taken turns draft) Not →
        CanBegin text spot turns.rows → ReadsTurns text turns spot draft Not
    deep_turn : {turns : Turns} {spot : Spot} {draft : Draft} →
        all_hold text spot draft turns.conditions ≡ true → ReadsChoice text turns.rows spot (taken turns draft) Deep →
        ReadsTurns text turns spot draft Deep
    last_turn : {turns : Turns} {spot : Spot} {draft turn : Draft} {end : ℕ} →
        all_hold text spot draft turns.conditions ≡ true → ReadsChoice text turns.rows spot (taken turns draft) (Read turn end) →
        is_last_turn turns.many spot.at end ≡ true → ReadsTurns text turns spot draft (Read (grown turns draft turn) end)
    next_turn : {turns : Turns} {spot : Spot} {draft turn : Draft} {end : ℕ} {o : Outcome} →
        all_hold text spot draft turns.conditions ≡ true → ReadsChoice text turns.rows spot (taken turns draft) (Read turn end) →
        is_last_turn turns.many spot.at end ≡ false → ReadsTurns text turns (moved spot end) (grown turns draft turn) o →
        ReadsTurns text turns spot draft o

  -- any number of the rows, separated by commas, behind the draft of those that were read
  pub data ReadsCommas (text : List ℕ) : List Row → Spot → Draft → Outcome → Type 0 where
    no_more : {rows : List Row} {spot : Spot} {draft : Draft} →
        ReadsChoice text rows spot empty Not → (CanBegin text spot rows → ⊥) → ReadsCommas text rows spot draft (Read draft spot.at)
    broken : {rows : List Row} {spot : Spot} {draft : Draft} →
        ReadsChoice text rows spot empty Not → CanBegin text spot rows → ReadsCommas text rows spot draft Not
    deep_item : {rows : List Row} {spot : Spot} {draft : Draft} →
        ReadsChoice text rows spot empty Deep → ReadsCommas text rows spot draft Deep
    last_item : {rows : List Row} {spot : Spot} {draft item : Draft} {end : ℕ} →
        ReadsChoice text rows spot empty (Read item end) → comma_at text (moved spot end) ≡ None →
        ReadsCommas text rows spot draft (Read (joined draft item) end)
    next_item : {rows : List Row} {spot : Spot} {draft item : Draft} {end : ℕ} {comma : Token} {o : Outcome} →
        ReadsChoice text rows spot empty (Read item end) → comma_at text (moved spot end) ≡ Some comma →
        ReadsCommas text rows (moved spot comma.span.end) (with_token (joined draft item) comma) o → ReadsCommas text rows spot draft o

  -- the first row that isn't Not
  pub data ReadsChoice (text : List ℕ) : List Row → Spot → Draft → Outcome → Type 0 where
    no_row : {spot : Spot} {seed : Draft} → ReadsChoice text [] spot seed Not
    this_row : {row : Row} {rows : List Row} {spot : Spot} {seed : Draft} {o : Outcome} →
        ReadsParts text row.parts spot empty o → is_not o ≡ false → ReadsChoice text (row ∷ rows) spot seed (finish row.makes seed o)
    next_row : {row : Row} {rows : List Row} {spot : Spot} {seed : Draft} {o : Outcome} →
        ReadsParts text row.parts spot empty Not → ReadsChoice text rows spot seed o → ReadsChoice text (row ∷ rows) spot seed o

  -- parts one after the other, behind the draft of those that were read
  pub data ReadsParts (text : List ℕ) : List Part → Spot → Draft → Outcome → Type 0 where
    done : {spot : Spot} {draft : Draft} → ReadsParts text [] spot draft (Read draft spot.at)
    stop : {p : Part} {ps : List Part} {spot : Spot} {draft : Draft} {o : Outcome} →
        ReadsPart text p spot draft o → is_read o ≡ false → ReadsParts text (p ∷ ps) spot draft o
    go_on : {p : Part} {ps : List Part} {spot : Spot} {draft further : Draft} {end : ℕ} {o : Outcome} →
        ReadsPart text p spot draft (Read further end) → ReadsParts text ps (moved spot end) further o →
        ReadsParts text (p ∷ ps) spot draft o

  -- a part; `^A` takes room, and without room it is Deep
  pub data ReadsPart (text : List ℕ) : Part → Spot → Draft → Outcome → Type 0 where
    plain : {p : Part} {spot : Spot} {draft : Draft} {o : Outcome} →
        plainly text spot p draft ≡ Some o → ReadsPart text p spot draft o
    symbol : {s : Symbol} {change : Change} {field : Option Field} {spot : Spot} {draft : Draft} {o : Outcome} →
        Reads text s (in_change change spot) o → ReadsPart text (part.Symbol s change field) spot draft (after draft field o)
    deeper : {s : Symbol} {change : Change} {field : Option Field} {spot : Spot} {draft : Draft} {o : Outcome} {room : ℕ} →
        spot.room ≡ room + 1 → Reads text s (in_change change (record spot { room = room })) o →
        ReadsPart text (part.Deeper s change field) spot draft (after draft field o)
    too_deep : {s : Symbol} {change : Change} {field : Option Field} {spot : Spot} {draft : Draft} →
        spot.room ≡ 0 → ReadsPart text (part.Deeper s change field) spot draft Deep

-- a symbol reads one thing at most from a place on
abbrev pub ReadsOnce : Type 0
ReadsOnce = (text : List ℕ) (symbol : Symbol) (spot : Spot) (one other : Outcome) →
    Reads text symbol spot one → Reads text symbol spot other → one ≡ other
