use Rattle.std.proofs.Common.{◌≡◌, take}
use Rattle.es_globs.proofs.piece.copied.Given as goal

abbrev pub invariant-loop-c : goal.invariant-loop-c
invariant-loop-c l = l.copy.items ≡ take l.c-index l.characters
