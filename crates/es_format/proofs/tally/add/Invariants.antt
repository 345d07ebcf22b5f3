use Rattle.std.proofs.Common.{◌≡◌, ◌++◌, map, take}
use Rattle.es_format.specs.Tallies.{tally_of}
use Rattle.es_format.proofs.tally.add.Given as goal

abbrev pub invariant-loop-message : goal.invariant-loop-message
invariant-loop-message l = l.tallies.items ≡ l.initial.tallies.items ++ map tally_of (take l.message-index l.messages)
