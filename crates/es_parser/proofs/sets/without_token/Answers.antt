use Rattle.es_parser.proofs.TextSetsLemmas.{no_token}
use Rattle.es_parser.proofs.sets.without_token.Goals as goal

pub returns-clause-found : goal.returns-clause-found
returns-clause-found g c =
    no_token c.args.reader.now c.args.spot.context c.args.spot.at c.find_between.result c.find_between.ensures.found c.requires.token
