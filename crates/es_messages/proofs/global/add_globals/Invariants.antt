use Rattle.std.proofs.Common.{◌≡◌, length}
use Rattle.es_messages.specs.Directives.{globals_of, words}
use Rattle.es_messages.specs.Joined.{joined}
use Rattle.es_messages.proofs.global.add_globals.Given as goal

abbrev pub invariant-loop-part : goal.invariant-loop-part
invariant-loop-part l =
    joined l.list (globals_of l.span (words l.rest)) ≡ joined l.initial.list (globals_of l.span (words l.initial.rest))

abbrev pub decreases-loop-part : goal.decreases-loop-part
decreases-loop-part l = length l.rest
