use Rattle.std.proofs.Common.{ℕ, ◌≡◌, ◌<◌, List, All, length, map, slice_index_or}
use Rattle.es_host.specs.declared.listeners.Listener.{Listener}
use Rattle.es_host.specs.Files.{file_in}
use Rattle.es_host.specs.Listeners.{ServeAll}
use Rattle.es_host.proofs.listeners.kinds_of.Given as goal

abbrev pub invariant-loop-kind : goal.invariant-loop-kind
invariant-loop-kind g l =
    (length l.kinds.items ≡ l.kind)
    × ((k : ℕ) (other : List Listener) → k < l.kind
    → ServeAll (map g.R.Rule.meaning l.rules) (file_in l.file) k (slice_index_or l.kinds.items k other)
    × All (λ listener. listener.rule < length (map g.R.Rule.meaning l.rules)) (slice_index_or l.kinds.items k other))
