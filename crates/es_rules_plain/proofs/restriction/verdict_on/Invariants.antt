use Rattle.std.proofs.Common.{◌≡◌, false, drop, map, take}
use Rattle.serde_json.specs.View.{view}
use Rattle.es_settings.specs.Settings.{have_float}
use Rattle.es_rules_plain.specs.Restrictions.{verdict_on}
use Rattle.es_rules_plain.proofs.restriction.verdict_on.Given as goal

abbrev pub invariant-loop-option : goal.invariant-loop-option
invariant-loop-option l = record {
  verdict : verdict_on (map view (drop l.option-index l.options)) ≡ verdict_on (map view l.options);
  floats : have_float (map view (take l.option-index l.options)) ≡ false;
}
