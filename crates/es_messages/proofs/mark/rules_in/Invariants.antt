use Rattle.std.proofs.Common.{◌≡◌, ◌++◌, map}
use Rattle.es_messages.specs.Seen.{listed_in, size_of}
use Rattle.es_messages.proofs.mark.rules_in.Given as goal

abbrev pub invariant-loop-part : goal.invariant-loop-part
invariant-loop-part l =
    l.rules ++ map (λ one. one.list) (listed_in l.left) ≡ map (λ one. one.list) (listed_in l.initial.left)

abbrev pub decreases-loop-part : goal.decreases-loop-part
decreases-loop-part l = size_of l.left
