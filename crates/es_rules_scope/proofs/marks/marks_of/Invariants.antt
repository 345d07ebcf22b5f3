use Rattle.std.proofs.Common.{take}
use Rattle.es_rules_scope.specs.Marks.{AreMarked}
use Rattle.es_rules_scope.proofs.marks.marks_of.Given as goal

abbrev pub invariant-loop-number : goal.invariant-loop-number
invariant-loop-number l = AreMarked (take l.number-index l.numbers) l.marks.items
