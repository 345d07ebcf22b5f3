use Rattle.std.proofs.Common.{◌≡◌, ◌++◌, drop, map}
use Rattle.es_settings.specs.Settings.{setting_of}
use Rattle.es_lint.specs.Laid.{rules_under}
use Rattle.es_lint.proofs.settings.rules_under.Given as goal

abbrev pub invariant-loop-place : goal.invariant-loop-place
invariant-loop-place l =
    map setting_of l.rules.items ++ rules_under l.entries (drop l.place l.ids) (map setting_of (drop l.place l.settings))
    ≡ rules_under l.entries l.ids (map setting_of l.settings)
