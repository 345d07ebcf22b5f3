use Rattle.std.proofs.Common.{◌≡◌, ◌+◌}
use Rattle.es_tree.specs.Shapes.{height}
use Rattle.es_tree.proofs.tests.chain.Given as goal

abbrev pub invariant-loop : goal.invariant-loop
invariant-loop l = height l.node ≡ l.counter + 1
