use Rattle.std.proofs.Common.{◌≡◌, ◌≤◌}
use Rattle.es_messages.specs.Seen.{listed_in, size_of}
use Rattle.es_messages.proofs.part.next_part.Given as goal

abbrev pub invariant-loop-rest : goal.invariant-loop-rest
invariant-loop-rest l = record {
  same : listed_in l.rest ≡ listed_in l.fn.left;
  smaller : size_of l.rest ≤ size_of l.fn.left;
}

abbrev pub decreases-loop-rest : goal.decreases-loop-rest
decreases-loop-rest l = size_of l.rest
