use Rattle.std.proofs.Common.{ℕ, List, subst}
use Rattle.es_parser.specs.Found.{Found}
use Rattle.es_parser.proofs.BeginningsLemmas.{all_found}
use Rattle.es_parser.proofs.sets.find_terminals.Goals as goal

pub returns-in-Some-clause-set : goal.returns-in-Some-clause-set
returns-in-Some-clause-set g c =
    all_found c.args.reader.now c.args.spot.context c.args.spot.at c.with_token.result
    (subst (λ (text : List ℕ). Found text c.args.spot.context c.args.spot.at c.with_token.result 125) c.token.ensures.same c.with_token.ensures.found)

pub returns-in-None-clause-set : goal.returns-in-None-clause-set
returns-in-None-clause-set g c =
    all_found c.args.reader.now c.args.spot.context c.args.spot.at c.without_token.result
    (subst (λ (text : List ℕ). Found text c.args.spot.context c.args.spot.at c.without_token.result 125) c.token.ensures.same c.without_token.ensures.found)
