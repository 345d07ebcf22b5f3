use Rattle.std.proofs.Common.{◌≡◌, take}
use Rattle.es_messages.specs.Stretches.{width}
use Rattle.es_messages.proofs.stretch.width.Given as goal

abbrev pub invariant-loop-c : goal.invariant-loop-c
invariant-loop-c l = l.bytes ≡ width (take l.c-index l.characters)
