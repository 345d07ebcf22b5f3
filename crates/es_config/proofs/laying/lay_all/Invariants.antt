use Rattle.std.proofs.Common.{◌≡◌, drop}
use Rattle.std.specs.List.{filter}
use Rattle.std.specs.Str.{chars}
use Rattle.es_config.specs.Drafts.{set_in}
use Rattle.es_config.specs.Entries.{layers_of}
use Rattle.es_config.specs.Laying.{all_laid}
use Rattle.es_config.specs.Standing.{is_for}
use Rattle.es_config.proofs.laying.lay_all.Given as goal

abbrev pub invariant-loop-entry : goal.invariant-loop-entry
invariant-loop-entry l =
    all_laid (set_in l.draft) (filter (is_for (chars l.name)) (layers_of (drop l.entry-index l.entries)))
    ≡ all_laid (set_in l.initial.draft) (filter (is_for (chars l.name)) (layers_of l.entries))
