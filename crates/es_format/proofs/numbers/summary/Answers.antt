use Rattle.std.proofs.Common.{arith}
use Rattle.std.proofs.lemmas.Grind.{common_steps}
use Rattle.es_format.proofs.NumbersLemmas.{encodes-summary}
use Rattle.es_format.proofs.numbers.summary.Goals as goal

pub returns : goal.returns
returns c =
    grind (arith, common_steps, c.in_ok-format.ensures.ok, c.in_ok-problems.ensures, c.in_ok-errors.ensures, c.in_ok-warnings.ensures, encodes-summary c.args.problems c.args.errors c.args.warnings c.ranges.problems.fits c.ranges.errors.fits c.ranges.warnings.fits)
