use Rattle.es_early.specs.Lookups.{declares_beside}
use Rattle.es_early.specs.Notes.{HasFirsts}
use Rattle.es_early.proofs.declarations.first_declared.Given as goal

abbrev pub invariant-loop-node : goal.invariant-loop-node
invariant-loop-node l = HasFirsts (declares_beside l.tree l.lexical) l.node l.notes
