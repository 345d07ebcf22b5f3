use Rattle.std.proofs.Common.{◌≡◌, ◌++◌, take}
use Rattle.es_globs.proofs.spelling.one_joined.Given as goal

abbrev pub invariant-loop-piece : goal.invariant-loop-piece
invariant-loop-piece l = l.both ≡ l.first ++ take l.piece-index l.other
