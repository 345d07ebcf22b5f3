use Rattle.std.proofs.Common.{length, ◌-◌, arith}
use Rattle.es_parser.proofs.PlacesLemmas.{last_is}
use Rattle.es_parser.proofs.nodes.last_end.Goals as goal

pub returns-in-len1-up : goal.returns-in-len1-up
returns-in-len1-up c = last_is c.args.tokens.now (length c.args.tokens.now - 1) _ (omega (arith, c.in-len1-up.len_at_least))
