use Rattle.std.proofs.Common.{◌≡◌, map, take}
use Rattle.es_format.specs.Stylish.{all_messages}
use Rattle.es_format.specs.Tallies.{tally_of}
use Rattle.es_format.proofs.tally.tallies.Given as goal

abbrev pub invariant-loop-named : goal.invariant-loop-named
invariant-loop-named l = l.tallies.items ≡ map tally_of (all_messages (take l.named-index l.results))
