use Rattle.std.proofs.Common.{◌≡◌, ◌+◌, drop}
use Rattle.es_messages.specs.Directives.{remark_at}
use Rattle.es_messages.proofs.comment.remark_at.Given as goal

abbrev pub invariant-loop-i : goal.invariant-loop-i
invariant-loop-i l = l.i + remark_at (drop l.i l.text) ≡ remark_at l.text
