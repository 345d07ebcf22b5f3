use Rattle.std.proofs.Common.{◌≡◌, drop, nat_lt}
use Rattle.es_format.specs.Stylish.{all_messages, number_of, warning}
use Rattle.es_run.proofs.reporting.are_over.Given as goal

abbrev pub invariant-loop-named : goal.invariant-loop-named
invariant-loop-named l =
    nat_lt l.left (number_of warning (all_messages (drop l.named-index l.results)))
    ≡ nat_lt l.fn.limit (number_of warning (all_messages l.fn.results))
