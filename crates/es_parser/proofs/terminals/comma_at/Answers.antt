use Rattle.std.proofs.Common.{◌≡◌, ◌<◌, ℕ, List, Some, None, Option, sym, arith}
use Rattle.std.specs.Prelude.{IfSome}
use Rattle.es_text.specs.declared.token.Token.{Token}
use Rattle.es_grammar.specs.declared.context.Context.{Context}
use Rattle.es_grammar.specs.declared.part.Terminal.TheVariants as t
use Rattle.es_grammar.specs.Terminals.{terminal_at}
use Rattle.es_parser.specs.Kept.{IsWithin}
use Rattle.es_parser.proofs.TerminalsLemmas.{comma_takes}
use Rattle.es_parser.proofs.terminals.comma_at.Goals as goal

moves : (text : List ℕ) (context : Context) (at : ℕ) (found : Option Token) → found ≡ terminal_at text context (t.Spelled 9) at →
    IfSome found (λ comma. IsWithin text at comma) → IfSome found (λ comma. at < comma.span.end)
moves text context at None e h = tt
moves text context at (Some comma) e h = let k = comma_takes text context at comma (sym e) in omega (arith, h.behind, k)

pub returns-clause-moves : goal.returns-clause-moves
returns-clause-moves g c = moves c.args.reader.now c.args.spot.context c.args.spot.at c.terminal_at.result c.terminal_at.ensures.token c.terminal_at.ensures.within
