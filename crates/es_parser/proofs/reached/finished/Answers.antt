use Rattle.es_parser.proofs.ReadingLemmas.{given_on}
use Rattle.es_parser.proofs.reached.finished.Goals as goal

pub returns-in-Parts : goal.returns-in-Parts
returns-in-Parts c = given_on c.args.makes c.args.reached c.args.draft.now c.in-Parts.is
