use Rattle.std.proofs.Common.{◌≡◌, ◌++◌, drop}
use Rattle.es_lint.specs.Bad.{bad_in}
use Rattle.es_lint.proofs.bad.add_bad.Given as goal

abbrev pub invariant-loop-comment : goal.invariant-loop-comment
invariant-loop-comment l =
    l.reports.items ++ bad_in l.ids l.source (drop l.comment-index l.comments) ≡ l.initial.reports.items ++ bad_in l.ids l.source l.comments
