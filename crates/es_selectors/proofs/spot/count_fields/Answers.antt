use Rattle.std.proofs.Common.{arith}
use Rattle.es_selectors.proofs.RangeLemmas.{few_fields}
use Rattle.es_selectors.proofs.spot.count_fields.Goals as goal

pub overflow_cast-result : goal.overflow_cast-result
overflow_cast-result c = omega (arith, few_fields c.args.kind)
