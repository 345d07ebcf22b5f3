use Rattle.std.proofs.Common.{take, map, length, vec_len}
use Rattle.es_messages.specs.Fixes.{Tells}
use Rattle.es_messages.specs.NumberedFixes.{seen}
use Rattle.es_messages.proofs.fixing.flags.Given as goal

abbrev pub invariant-loop-one : goal.invariant-loop-one
invariant-loop-one l = Tells (map seen (take l.one-index l.taken)) l.count l.flags.items
