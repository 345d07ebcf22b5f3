use Rattle.std.proofs.Common.{◌≡◌, drop}
use Rattle.es_lint.specs.Laid.{severity_under}
use Rattle.es_lint.proofs.settings.severity_under.Given as goal

abbrev pub invariant-loop-entry : goal.invariant-loop-entry
invariant-loop-entry l =
    severity_under (drop l.entry-index l.entries) l.id l.last ≡ severity_under l.entries l.id l.fn.severity
