use Rattle.std.proofs.Common.{◌≡◌}
use Rattle.es_messages.specs.Directives.{settings_of}
use Rattle.es_messages.specs.Joined.{joined}
use Rattle.es_messages.specs.Seen.{listed_in, size_of}
use Rattle.es_messages.proofs.entry.add_settings.Given as goal

abbrev pub invariant-loop-part : goal.invariant-loop-part
invariant-loop-part l =
    joined l.list (settings_of l.span (listed_in l.left)) ≡ joined l.initial.list (settings_of l.span (listed_in l.initial.left))

abbrev pub decreases-loop-part : goal.decreases-loop-part
decreases-loop-part l = size_of l.left
