use Rattle.std.proofs.Common.{◌≡◌, drop}
use Rattle.es_messages.specs.Directives.{directives}
use Rattle.es_messages.specs.Joined.{joined}
use Rattle.es_messages.proofs.reading.directives.Given as goal

abbrev pub invariant-loop-comment : goal.invariant-loop-comment
invariant-loop-comment l =
    joined l.list (directives l.source (drop l.comment-index l.comments)) ≡ directives l.source l.comments
