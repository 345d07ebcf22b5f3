-- What can begin a turn of a rule.
use Rattle.std.specs.Prelude.{ℕ, List, IsSome}
use Rattle.es_grammar.specs.declared.context.Spot.{Spot}
use Rattle.es_grammar.specs.declared.part.Terminal.{Terminal}
use Rattle.es_grammar.specs.declared.symbol.Symbol.{Symbol}
use Rattle.es_grammar.specs.Firsts.{BeginsTurn}
use Rattle.es_grammar.specs.Terminals.{terminal_at}

-- the terminal reads the next token, which can begin a turn of the symbol's rule
abbrev pub BeginsNext : List ℕ → Spot → Terminal → Symbol → Type 0
BeginsNext text spot terminal symbol = BeginsTurn terminal symbol × IsSome (terminal_at text spot.context terminal spot.at)
