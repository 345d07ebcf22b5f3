use Rattle.std.proofs.Common.{◌≡◌, drop}
use Rattle.std.specs.List.{list_any}
use Rattle.es_selectors.specs.KindAtoms.{asks_other}
use Rattle.es_selectors.proofs.matching.any_asks_other.Given as goal

abbrev pub invariant-loop-atom : goal.invariant-loop-atom
invariant-loop-atom l = list_any (asks_other l.kind) (drop l.atom-index l.atoms) ≡ list_any (asks_other l.kind) l.atoms
