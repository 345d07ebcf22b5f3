use Rattle.std.proofs.Common.{◌≡◌, drop}
use Rattle.es_parser.specs.Sketches.{all_lower}
use Rattle.es_parser.proofs.sketches.are_lower.Given as goal

abbrev pub invariant-loop-child : goal.invariant-loop-child
invariant-loop-child l = all_lower l.limit (drop l.child-index l.children) ≡ all_lower l.limit l.children
