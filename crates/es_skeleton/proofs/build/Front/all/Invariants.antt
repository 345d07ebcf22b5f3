use Rattle.std.proofs.Common.{◌≡◌, ◌++◌, map, drop}
use Rattle.es_skeleton.specs.declared.completion.Completion.TheVariants.{Normal}
use Rattle.es_skeleton.specs.Built.{at_head}
use Rattle.es_skeleton.proofs.build.Front.all.Given as goal

abbrev pub invariant-loop-head : goal.invariant-loop-head
invariant-loop-head l = l.list.items ++ map (at_head Normal) (drop l.head-index l.fn.self.normal.items) ≡ l.initial.list.items ++ map (at_head Normal) l.fn.self.normal.items
