use Rattle.std.proofs.Common.{◌≡◌, map, take}
use Rattle.es_globs.specs.Spelling.{parts_of}
use Rattle.es_globs.proofs.glob.all_parts.Given as goal

abbrev pub invariant-loop-pattern : goal.invariant-loop-pattern
invariant-loop-pattern l = l.parts ≡ map parts_of (take l.pattern-index l.patterns)
