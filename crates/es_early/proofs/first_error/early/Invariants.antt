use Rattle.es_early.proofs.ErrorsLemmas.{FirstBelow}
use Rattle.es_early.proofs.first_error.early.Given as goal

abbrev pub invariant-loop-node : goal.invariant-loop-node
invariant-loop-node l = FirstBelow l.tree l.source_type l.node l.first
