use Rattle.std.proofs.Common.{◌≡◌, drop}
use Rattle.std.specs.Str.{chars}
use Rattle.es_config.specs.Entries.{layers_of}
use Rattle.es_config.specs.Standing.{is_taken}
use Rattle.es_config.proofs.standing.is_taken.Given as goal

abbrev pub invariant-loop-entry : goal.invariant-loop-entry
invariant-loop-entry l =
    is_taken (chars l.name) (layers_of (drop l.entry-index l.entries)) ≡ is_taken (chars l.name) (layers_of l.entries)
