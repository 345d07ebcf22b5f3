-- A set of terminals that is being found.
use Rattle.std.specs.Prelude.{◌≡◌, ◌≤◌, ◌<◌, ◌↔◌, ℕ, List, ◌++◌, IsSome}
use Rattle.std.specs.Int.{bit_at}
use Rattle.es_tables.specs.Words.{keyword_words, punctuator_words}
use Rattle.es_grammar.specs.declared.context.Context.{Context}
use Rattle.es_grammar.specs.declared.part.Terminal.{Terminal}
use Rattle.es_grammar.specs.TerminalSets.{HasTerminal, code_of}
use Rattle.es_parser.specs.Kept.{plain_at}

-- the set has of the terminals with codes below this one those that read the next token, and no others
pub record Found (text : List ℕ) (context : Context) (at : ℕ) (set : ℕ) (code : ℕ) : Type 0 where
  pub each : (terminal : Terminal) → code_of terminal < code → HasTerminal set terminal ↔ IsSome (plain_at text context terminal at)
  pub above : (k : ℕ) → code ≤ k → bit_at set k ≡ 0

-- the punctuators and the reserved words, with which the texts of single tokens begin
abbrev pub fixed_words : List (List ℕ)
fixed_words = punctuator_words ++ keyword_words
