-- What is kept of a text that is being read: tokens of it, the terminals that read them, what was found not
-- to be there, and what was read and then given up.
use Rattle.std.specs.Prelude.{◌≡◌, ◌↔◌, ℕ, Bool, true, false, List, Option, Some, None, IsSome, if◌then◌else◌}
use Rattle.es_text.specs.declared.token.LexMode.TheVariants.{Division}
use Rattle.es_text.specs.declared.token.Token.{Token}
use Rattle.es_text.specs.Tokens.{token}
pub use Rattle.es_text.specs.Within.{IsWithin}
use Rattle.es_grammar.specs.declared.context.Context.{Context}
use Rattle.es_grammar.specs.declared.draft.Outcome.TheVariants.{Not, Read}
use Rattle.es_grammar.specs.declared.part.Terminal.{Terminal}
use Rattle.es_grammar.specs.declared.part.Terminal.TheVariants as t
use Rattle.es_grammar.specs.Reading.{Reads}
use Rattle.es_grammar.specs.Terminals.{terminal_at}
use Rattle.es_grammar.specs.TerminalSets.{HasTerminal}
use Rattle.es_parser.specs.declared.reader.KeptOutcome.{KeptOutcome}
use Rattle.es_parser.specs.declared.reader.KeptTerminals.{KeptTerminals}
use Rattle.es_parser.specs.declared.reader.KeptToken.{KeptToken}
use Rattle.es_parser.specs.declared.reader.Refusal.{Refusal}
use Rattle.es_parser.specs.Ends.{EndsFrom}

-- what is kept is the token of the text
pub record IsKept (text : List ℕ) (kept : KeptToken) : Type 0 where
  pub read : token text kept.at Division ≡ Some kept.token
  pub within : IsWithin text kept.at kept.token

-- the terminal reads a later part of a template
abbrev pub goes_on : Terminal → Bool
goes_on t.Middle = true
goes_on t.Tail = true
goes_on other = false

-- the token that the terminal reads, where that is no later part of a template
abbrev pub plain_at : List ℕ → Context → Terminal → ℕ → Option Token
plain_at text context terminal at = if goes_on terminal then None else terminal_at text context terminal at

-- the set has exactly the terminals that read the next token, and isn't asked for later parts of templates
pub record HasTerminals (text : List ℕ) (context : Context) (at : ℕ) (set : ℕ) : Type 0 where
  pub each : (terminal : Terminal) → HasTerminal set terminal ↔ IsSome (plain_at text context terminal at)

abbrev pub IsKeptSet : List ℕ → Option KeptTerminals → Type 0
IsKeptSet text None = Unit {0}
IsKeptSet text (Some kept) = HasTerminals text kept.context kept.at kept.set

abbrev pub IsRefused : List ℕ → Option Refusal → Type 0
IsRefused text None = Unit {0}
IsRefused text (Some refusal) = Reads text refusal.symbol refusal.spot Not

-- what is kept is what the symbol reads at the spot
pub record IsOutcome (text : List ℕ) (kept : KeptOutcome) : Type 0 where
  pub reads : Reads text kept.symbol kept.spot (Read kept.draft kept.end)
  pub ends : EndsFrom text kept.spot.at (Read kept.draft kept.end)

abbrev pub IsKeptOutcome : List ℕ → Option KeptOutcome → Type 0
IsKeptOutcome text None = Unit {0}
IsKeptOutcome text (Some kept) = IsOutcome text kept
