use Rattle.es_scopes.specs.Filled.{ArePlaces}
use Rattle.es_scopes.proofs.places.place_all.Given as goal

abbrev pub invariant-loop-node : goal.invariant-loop-node
invariant-loop-node l = ArePlaces l.tree l.node l.places
