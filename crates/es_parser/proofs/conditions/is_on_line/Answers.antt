use Rattle.std.proofs.Common.{ap, sym, ◌∙◌}
use Rattle.std.specs.Prelude.{not}
use Rattle.es_text.specs.declared.token.LexMode.TheVariants.{Division}
use Rattle.es_parser.proofs.ConditionsLemmas.{token_line}
use Rattle.es_parser.proofs.conditions.is_on_line.Goals as goal

pub returns-in-Some-clause-so : goal.returns-in-Some-clause-so
returns-in-Some-clause-so g c =
    ap not (token_line c.args.reader.now c.args.at Division c.in-Some.next (sym c.token.ensures.token ∙ c.in-Some.is))
