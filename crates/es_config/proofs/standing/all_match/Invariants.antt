use Rattle.std.proofs.Common.{◌≡◌, drop}
use Rattle.std.specs.List.{list_all}
use Rattle.std.specs.Str.{chars}
use Rattle.es_globs.specs.Globs.{matches}
use Rattle.es_config.proofs.standing.all_match.Given as goal

abbrev pub invariant-loop-glob : goal.invariant-loop-glob
invariant-loop-glob l =
    list_all (λ glob. matches glob (chars l.name)) (drop l.glob-index l.globs) ≡ list_all (λ glob. matches glob (chars l.name)) l.globs
