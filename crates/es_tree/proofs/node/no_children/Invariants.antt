use Rattle.std.proofs.Common.{◌≡◌, [], replicate}
use Rattle.es_tree.proofs.node.no_children.Given as goal

abbrev pub invariant-loop : goal.invariant-loop
invariant-loop l = l.fields.items ≡ replicate l.counter []
