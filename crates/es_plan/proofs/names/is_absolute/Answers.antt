use Rattle.std.proofs.Common.{lit<}
use Rattle.es_plan.proofs.names.is_absolute.Goals as goal

pub returns : goal.returns
returns c = c.starts_with.ensures.byte (lit< tt) (lit< tt) (λ w o h. h)
