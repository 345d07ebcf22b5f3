use Rattle.std.proofs.Common.{◌≡◌, take}
use Rattle.es_fork.specs.Changes.{edges_to}
use Rattle.es_fork.proofs.lists.joined_edges.Given as goal

abbrev pub invariant-loop-part : goal.invariant-loop-part
invariant-loop-part l = l.edges.items ≡ edges_to (take l.part-index l.parts) l.ids
