use Rattle.std.proofs.Common.{◌≡◌, ◌++◌, map, take}
use Rattle.es_globs.proofs.spelling.add_joined.Given as goal

abbrev pub invariant-loop-other : goal.invariant-loop-other
invariant-loop-other l = l.patterns ≡ l.initial.patterns ++ map (λ other. l.first ++ other) (take l.other-index l.others)
