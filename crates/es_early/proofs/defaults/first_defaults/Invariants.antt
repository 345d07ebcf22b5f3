use Rattle.es_early.specs.Lookups.{HasDefaults}
use Rattle.es_early.proofs.defaults.first_defaults.Given as goal

abbrev pub invariant-loop-node : goal.invariant-loop-node
invariant-loop-node l = HasDefaults l.tree l.node l.notes
