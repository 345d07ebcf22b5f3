use Rattle.std.proofs.Common.{ℕ, ◌≡◌, ◌<◌, ◌≤◌, Some}
use Rattle.es_tree.specs.Rows.{kind_of}
use Rattle.es_host.proofs.listeners.greatest_kind.Given as goal

abbrev pub invariant-loop-node : goal.invariant-loop-node
invariant-loop-node l = (node kind : ℕ) → node < l.node → kind_of l.tree node ≡ Some kind → kind ≤ l.greatest
