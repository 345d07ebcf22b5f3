use Rattle.std.proofs.Common.{◌≡◌, take}
use Rattle.es_tree.proofs.shape.copy_attributes.Given as goal

abbrev pub invariant-loop-given : goal.invariant-loop-given
invariant-loop-given l = l.copy.items ≡ take l.given-index l.attributes
