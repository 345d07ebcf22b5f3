use Rattle.std.proofs.Common.{◌≡◌, map, take}
use Rattle.es_settings.specs.Settings.{setting_of}
use Rattle.es_settings.proofs.file_config.copy_rules.Given as goal

abbrev pub invariant-loop-rule : goal.invariant-loop-rule
invariant-loop-rule l = map setting_of l.copies.items ≡ map setting_of (take l.rule-index l.rules)
