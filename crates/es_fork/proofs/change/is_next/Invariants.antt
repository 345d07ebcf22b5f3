use Rattle.std.proofs.Common.{◌≡◌, ◌==◌, drop}
use Rattle.std.specs.List.{list_any}
use Rattle.es_fork.proofs.change.is_next.Given as goal

abbrev pub invariant-loop-next : goal.invariant-loop-next
invariant-loop-next l = list_any (λ next. next == l.fn.to) (drop l.next-index l.ids) ≡ list_any (λ next. next == l.fn.to) l.ids
