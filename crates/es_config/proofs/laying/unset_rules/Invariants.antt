use Rattle.std.proofs.Common.{◌≡◌, map, replicate}
use Rattle.es_settings.specs.Settings.{unset}
use Rattle.es_settings.specs.Settings.{setting_of}
use Rattle.es_config.proofs.laying.unset_rules.Given as goal

abbrev pub invariant-loop : goal.invariant-loop
invariant-loop l = map setting_of l.rules.items ≡ replicate l.counter unset
