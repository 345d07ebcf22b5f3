use Rattle.std.proofs.Common.{◌≡◌, drop}
use Rattle.std.specs.List.{flat_map}
use Rattle.std.specs.Str.{chars}
use Rattle.es_config.specs.Entries.{layers_of}
use Rattle.es_config.specs.Standing.{deciding, general_ignores, is_ignored, last_says}
use Rattle.es_config.proofs.standing.is_ignored.Given as goal

abbrev pub invariant-loop-entry : goal.invariant-loop-entry
invariant-loop-entry l =
    last_says l.said (deciding (chars l.name) (flat_map general_ignores (layers_of (drop l.entry-index l.entries))))
    ≡ is_ignored (chars l.name) (layers_of l.entries)
