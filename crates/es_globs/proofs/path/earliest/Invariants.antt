use Rattle.std.proofs.Common.{◌≡◌}
use Rattle.es_globs.specs.Fitting.{earliest}
use Rattle.es_globs.specs.Parts.{parts_in, size_in}
use Rattle.es_globs.specs.Patterns.{takes_part}
use Rattle.es_globs.proofs.path.earliest.Given as goal

abbrev pub invariant-loop-left : goal.invariant-loop-left
invariant-loop-left l =
    earliest takes_part l.parts l.last (parts_in l.rest) ≡ earliest takes_part l.parts l.last (parts_in l.name)

abbrev pub decreases-loop-left : goal.decreases-loop-left
decreases-loop-left l = size_in l.rest
