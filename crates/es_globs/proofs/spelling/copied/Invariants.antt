use Rattle.std.proofs.Common.{◌≡◌, take}
use Rattle.es_globs.proofs.spelling.copied.Given as goal

abbrev pub invariant-loop-piece : goal.invariant-loop-piece
invariant-loop-piece l = l.copy.items ≡ take l.piece-index l.pieces
