use Rattle.std.proofs.Common.{◌≡◌, map, take}
use Rattle.serde_json.specs.View.{view}
use Rattle.es_rules_plain.specs.Restrictions.{restrictions}
use Rattle.es_rules_plain.proofs.restriction.restrictions_in.Given as goal

abbrev pub invariant-loop-option : goal.invariant-loop-option
invariant-loop-option l = l.found.items ≡ restrictions (map view (take l.option-index l.options))
