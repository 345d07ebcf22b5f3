use Rattle.std.proofs.Common.{◌∙◌, sym}
use Rattle.es_parser.proofs.FrontsLemmas.{told}
use Rattle.es_parser.proofs.TurnsLemmas.{lacks_turns_over}
use Rattle.es_parser.proofs.fronts.is_quiet.Goals as goal

pub returns : goal.returns
returns c =
    told c.lacks_turns.result (λ so. lacks_turns_over c.args._reader.now c.args.spot c.args.set c.requires c.args.symbol (sym c.lacks_turns.ensures ∙ so))
