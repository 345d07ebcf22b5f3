use Rattle.std.proofs.Common.{◌≡◌, ◌++◌}
use Rattle.std.specs.List.{filter}
use Rattle.es_format.specs.Stylish.{error}
use Rattle.es_run.proofs.reporting.errors_in.Given as goal

abbrev pub invariant-loop-message : goal.invariant-loop-message
invariant-loop-message l = l.errors ++ filter error l.message-iterator.rest.items ≡ filter error l.fn.messages
