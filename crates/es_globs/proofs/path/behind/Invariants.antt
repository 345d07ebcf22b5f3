use Rattle.std.proofs.Common.{◌≡◌, drop}
use Rattle.es_globs.specs.Fitting.{behind}
use Rattle.es_globs.specs.Parts.{parts_in}
use Rattle.es_globs.specs.Patterns.{takes_part}
use Rattle.es_globs.proofs.path.behind.Given as goal

abbrev pub invariant-loop-part : goal.invariant-loop-part
invariant-loop-part l =
    behind takes_part (drop l.part-index l.parts) (parts_in l.rest) ≡ behind takes_part l.parts (parts_in l.name)
