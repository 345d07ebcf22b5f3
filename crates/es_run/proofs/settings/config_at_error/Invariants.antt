use Rattle.std.proofs.Common.{◌≡◌, map}
use Rattle.std.specs.Prelude.{replicate}
use Rattle.es_settings.specs.Settings.{setting_of}
use Rattle.es_run.specs.Generated.{at_error}
use Rattle.es_run.proofs.settings.config_at_error.Given as goal

abbrev pub invariant-loop : goal.invariant-loop
invariant-loop l = map setting_of l.rules.items ≡ replicate l.counter at_error
