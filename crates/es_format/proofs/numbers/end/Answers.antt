use Rattle.std.proofs.Common.{◌<◌, length, arith, rules}
use Rattle.std.proofs.lemmas.Grind.{common_steps}
use Rattle.es_format.proofs.TalliesLemmas.{encodes-end}
use Rattle.es_format.proofs.numbers.end.Goals as goal

pub returns : goal.returns
returns c =
    let some : 0 < length c.args.tallies.now = search rules in
    grind (arith, common_steps, c.in_ok-format.ensures.ok, c.in_ok-summary.ensures, c.in_ok-fixable.ensures, encodes-end c.args.tallies.now some)
