use Rattle.std.proofs.Common.{length}
use Rattle.es_fork.proofs.change.+lead.Given as goal

abbrev pub decreases-lead : goal.decreases-lead
decreases-lead l = length l.edges.now
