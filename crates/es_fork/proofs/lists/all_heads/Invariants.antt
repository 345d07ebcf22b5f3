use Rattle.std.proofs.Common.{◌≡◌, take}
use Rattle.es_fork.specs.Changes.{all_heads}
use Rattle.es_fork.proofs.lists.all_heads.Given as goal

abbrev pub invariant-loop-part : goal.invariant-loop-part
invariant-loop-part l = l.heads.items ≡ all_heads (take l.part-index l.parts)
