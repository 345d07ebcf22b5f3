use Rattle.std.proofs.Common.{◌≡◌, drop}
use Rattle.std.specs.Str.{chars}
use Rattle.es_config.specs.Standing.{deciding, last_says}
use Rattle.es_config.proofs.standing.last_says.Given as goal

abbrev pub invariant-loop-glob : goal.invariant-loop-glob
invariant-loop-glob l =
    last_says l.said (deciding (chars l.name) (drop l.glob-index l.globs)) ≡ last_says l.before (deciding (chars l.name) l.globs)
