use Rattle.std.proofs.Common.{◌≡◌, drop}
use Rattle.std.specs.List.{list_all}
use Rattle.es_selectors.specs.KindAtoms.{names_other}
use Rattle.es_selectors.proofs.matching.all_name_other.Given as goal

abbrev pub invariant-loop-chain : goal.invariant-loop-chain
invariant-loop-chain l = list_all (names_other l.kind) (drop l.chain-index l.chains) ≡ list_all (names_other l.kind) l.chains
