use Rattle.std.proofs.Common.{◌≡◌, map, take}
use Rattle.es_rules_plain.specs.Restrictions.{restricted_by}
use Rattle.es_rules_plain.proofs.restriction.selectors_of.Given as goal

abbrev pub invariant-loop-restriction : goal.invariant-loop-restriction
invariant-loop-restriction l = l.selectors.items ≡ map restricted_by (take l.restriction-index l.restrictions)
