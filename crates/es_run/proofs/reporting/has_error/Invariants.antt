use Rattle.std.proofs.Common.{◌≡◌, drop}
use Rattle.es_format.specs.Stylish.{all_messages}
use Rattle.es_run.specs.Reporting.{has_error}
use Rattle.es_run.proofs.reporting.has_error.Given as goal

abbrev pub invariant-loop-named : goal.invariant-loop-named
invariant-loop-named l = has_error (all_messages (drop l.named-index l.results)) ≡ has_error (all_messages l.fn.results)
