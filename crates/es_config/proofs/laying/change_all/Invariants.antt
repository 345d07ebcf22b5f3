use Rattle.std.proofs.Common.{◌≡◌, drop, map}
use Rattle.es_config.specs.Entries.{change_of}
use Rattle.es_config.specs.Laying.{with_changes}
use Rattle.es_settings.specs.Settings.{setting_of}
use Rattle.es_config.proofs.laying.change_all.Given as goal

abbrev pub invariant-loop-given : goal.invariant-loop-given
invariant-loop-given l =
    with_changes (map setting_of l.rules.items) (map change_of (drop l.given-index l.changes))
    ≡ with_changes (map setting_of l.initial.rules.items) (map change_of l.changes)
