use Rattle.std.proofs.Common.{◌≡◌, false, drop}
use Rattle.es_globs.specs.Spelling.{ends_in_slash}
use Rattle.es_globs.proofs.spelling.ends_in_slash.Given as goal

abbrev pub invariant-loop-piece : goal.invariant-loop-piece
invariant-loop-piece l = ends_in_slash l.ends (drop l.piece-index l.pattern) ≡ ends_in_slash false l.pattern
