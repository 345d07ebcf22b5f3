use Rattle.std.proofs.Common.{◌≡◌, drop}
use Rattle.std.specs.Str.{chars}
use Rattle.es_config.specs.Standing.{files_match}
use Rattle.es_config.proofs.standing.files_match.Given as goal

abbrev pub invariant-loop-globs : goal.invariant-loop-globs
invariant-loop-globs l = files_match (chars l.name) (drop l.globs-index l.files) ≡ files_match (chars l.name) l.files
