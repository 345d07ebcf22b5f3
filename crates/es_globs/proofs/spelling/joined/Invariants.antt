use Rattle.std.proofs.Common.{◌≡◌, ◌++◌, drop}
use Rattle.es_globs.specs.Spelling.{joined}
use Rattle.es_globs.proofs.spelling.joined.Given as goal

abbrev pub invariant-loop-first : goal.invariant-loop-first
invariant-loop-first l = l.patterns ++ joined (drop l.first-index l.firsts) l.others ≡ joined l.firsts l.others
