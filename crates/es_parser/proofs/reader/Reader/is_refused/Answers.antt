use Rattle.std.proofs.Common.{◌≡◌, Bool, true, false, subst, sym}
use Rattle.std.specs.Bool.{OnTrue}
use denote.Enum.Bare.{sameb, same_true}
use Rattle.es_grammar.specs.contracts.symbol.Symbol.{the_type}
use Rattle.es_grammar.specs.declared.draft.Outcome.TheVariants.{Not}
use Rattle.es_grammar.specs.declared.symbol.Symbol.{Symbol}
use Rattle.es_grammar.specs.Reading.{Reads}
use Rattle.es_parser.proofs.reader.Reader.is_refused.Goals as goal

told : (P : Symbol → Type 0) (b : Bool) (one other : Symbol) → b ≡ sameb the_type one other → P one → OnTrue b (P other)
told P true one other e h = subst P (same_true the_type tt one other (sym e)) h
told P false one other e h = tt

pub returns-in-Some : goal.returns-in-Some
returns-in-Some c =
    told (λ symbol. Reads c.args.self.now symbol c.args.spot Not) c.eq.result c.in-Some.refused c.args.symbol c.eq.ensures c.in-Some.ensures
