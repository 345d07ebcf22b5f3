use Rattle.std.proofs.Common.{◌≡◌, drop}
use Rattle.es_fork.specs.Changes.{joins_reachable}
use Rattle.es_fork.proofs.lists.joins_reachable.Given as goal

abbrev pub invariant-loop-part : goal.invariant-loop-part
invariant-loop-part l = joins_reachable l.segments (drop l.part-index l.parts) l.index ≡ joins_reachable l.segments l.parts l.index
