use Rattle.std.proofs.Common.{◌≡◌, ◌++◌, map}
use Rattle.es_run.specs.Reporting.{quiet_named}
use Rattle.es_run.proofs.reporting.quiet.Given as goal

abbrev pub invariant-loop-name : goal.invariant-loop-name
invariant-loop-name l = l.errors.items ++ map quiet_named l.name-iterator.rest.items ≡ map quiet_named l.fn.results.items
