-- What the interpreter of the grammar needs to know of outcomes and parts.
use Rattle.std.specs.Prelude.{ℕ, ◌≤◌, List, Bool, true, false, Option, Some, None}
use Rattle.std.specs.Option.{option_and_then}
use Rattle.std.specs.Str.{IsCharBoundary}
use Rattle.es_text.specs.declared.token.Token.{Token}
use Rattle.es_grammar.specs.declared.context.Spot.{Spot}
use Rattle.es_grammar.specs.Terminals.{terminal_at}
use Rattle.es_grammar.specs.declared.draft.Outcome.{Outcome}
use Rattle.es_grammar.specs.declared.draft.Outcome.TheVariants.{Not, Deep, Read}
use Rattle.es_grammar.specs.declared.part.Condition.{Condition}
use Rattle.es_grammar.specs.declared.part.Condition.TheVariants as condition
use Rattle.es_grammar.specs.declared.part.Part.{Part}
use Rattle.es_grammar.specs.declared.part.Part.TheVariants as part
use Rattle.es_grammar.specs.declared.part.Terminal.{Terminal}

-- what was read ends at a character of the text, or at its end
abbrev pub EndsIn : List ℕ → Outcome → Type 0
EndsIn text Not = Unit {0}
EndsIn text Deep = Unit {0}
EndsIn text (Read draft end) = IsCharBoundary text end

-- and no earlier than it begins
abbrev pub EndsFrom : List ℕ → ℕ → Outcome → Type 0
EndsFrom text at Not = Unit {0}
EndsFrom text at Deep = Unit {0}
EndsFrom text at (Read draft end) = (at ≤ end) × IsCharBoundary text end

-- the part reads no symbol
abbrev pub is_plain : Part → Bool
is_plain (part.Symbol symbol change field) = false
is_plain (part.Deeper symbol change field) = false
is_plain other = true

-- the terminal of the token that the part reads or gives on
abbrev pub terminal_of : Part → Option Terminal
terminal_of (part.Token terminal) = Some terminal
terminal_of (part.Words terminal field) = Some terminal
terminal_of (part.Leaf terminal kind field) = Some terminal
terminal_of (part.Twin terminal kind field) = Some terminal
terminal_of other = None

abbrev pub token_at : List ℕ → Spot → Part → Option Token
token_at text spot p = option_and_then (λ terminal. terminal_at text spot.context terminal spot.at) (terminal_of p)

-- the part only notes something
abbrev pub is_note : Part → Bool
is_note part.Hole = true
is_note (part.Flag field) = true
is_note (part.Kind member) = true
is_note (part.Becomes kind) = true
is_note part.Directives = true
is_note other = false

-- the condition asks what was read, and not what follows or what the context allows
abbrev pub is_of_draft : Condition → Bool
is_of_draft condition.PlainTarget = true
is_of_draft condition.PatternHasValue = true
is_of_draft condition.NoLogicalOperator = true
is_of_draft condition.NoUnaryOperator = true
is_of_draft condition.ConstructorKey = true
is_of_draft other = false
