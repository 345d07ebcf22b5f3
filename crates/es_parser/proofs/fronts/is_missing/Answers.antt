use Rattle.std.proofs.Common.{◌∙◌, sym}
use Rattle.es_parser.proofs.FrontsLemmas.{lacks_parts, told}
use Rattle.es_parser.proofs.fronts.is_missing.Goals as goal

pub returns : goal.returns
returns c = told c.lacks_parts.result (λ so. lacks_parts c.args._reader.now c.args.spot c.args.set c.requires c.args.parts.now (sym c.lacks_parts.ensures ∙ so))
