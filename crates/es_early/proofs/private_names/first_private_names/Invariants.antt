use Rattle.es_early.specs.Lookups.{declares_named}
use Rattle.es_early.specs.Notes.{HasFirsts}
use Rattle.es_early.proofs.private_names.first_private_names.Given as goal

abbrev pub invariant-loop-node : goal.invariant-loop-node
invariant-loop-node l = HasFirsts (declares_named l.tree) l.node l.notes
