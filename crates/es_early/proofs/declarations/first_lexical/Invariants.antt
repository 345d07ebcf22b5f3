use Rattle.es_early.specs.Lookups.{declares_lexically}
use Rattle.es_early.specs.Notes.{HasFirsts}
use Rattle.es_early.proofs.declarations.first_lexical.Given as goal

abbrev pub invariant-loop-node : goal.invariant-loop-node
invariant-loop-node l = HasFirsts (declares_lexically l.tree) l.node l.notes
