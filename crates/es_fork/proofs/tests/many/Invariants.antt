use Rattle.es_fork.specs.Forks.{AreForks}
use Rattle.es_fork.proofs.tests.many.Given as goal

abbrev pub invariant-loop : goal.invariant-loop
invariant-loop g l = AreForks l.graph.segments l.parts.items
