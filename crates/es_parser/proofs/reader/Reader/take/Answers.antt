use Rattle.std.proofs.Common.{◌≡◌, ◌∙◌, subst, sym}
use denote.Enum.Bare.{same_true}
use Rattle.es_grammar.specs.contracts.symbol.Symbol.{the_type}
use Rattle.es_grammar.specs.declared.draft.Outcome.TheVariants.{Read}
use Rattle.es_grammar.specs.Reading.{Reads}
use Rattle.es_parser.proofs.reader.Reader.take.Goals as goal

pub returns-then-eq-clause-reads : goal.returns-then-eq-clause-reads
returns-then-eq-clause-reads c =
    let kept = c.in_ok-kept.kept in
    subst (λ symbol. Reads c.args.self.now symbol c.args.spot (Read kept.draft kept.end))
    (same_true the_type tt kept.symbol c.args.symbol (sym c.eq.ensures ∙ c.if-eq.true))
    (subst (λ spot. Reads c.args.self.now kept.symbol spot (Read kept.draft kept.end)) c.in_ok-kept.ensures.spot c.in_ok-kept.ensures.outcome.reads)
