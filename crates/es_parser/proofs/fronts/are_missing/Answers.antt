use Rattle.std.proofs.Common.{◌∙◌, map, sym}
use Rattle.es_grammar.specs.Rules.{row}
use Rattle.es_parser.proofs.FrontsLemmas.{lacks_rows, told}
use Rattle.es_parser.proofs.fronts.are_missing.Goals as goal

pub returns : goal.returns
returns c = told c.lacks_rows.result (λ so. lacks_rows c.args._reader.now c.args.spot c.args.set c.requires (map row c.args.rows.now) (sym c.lacks_rows.ensures ∙ so))
