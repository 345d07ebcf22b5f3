use Rattle.std.proofs.Common.{◌≡◌, drop}
use Rattle.std.specs.List.{list_any}
use Rattle.std.specs.Str.{chars}
use Rattle.es_globs.specs.Patterns.{pattern_matches}
use Rattle.es_globs.proofs.glob.Glob.plain_matches.Given as goal

abbrev pub invariant-loop-pattern : goal.invariant-loop-pattern
invariant-loop-pattern l =
    list_any (pattern_matches (chars l.name)) (drop l.pattern-index l.pattern-items) ≡ list_any (pattern_matches (chars l.name)) l.pattern-items
