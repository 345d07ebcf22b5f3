use Rattle.std.proofs.Common.{◌≡◌, ◌<◌, ℕ, false}
use Rattle.std.specs.Prelude.{is_none}
use Rattle.es_tree.specs.Around.{joined}
use Rattle.es_tree.specs.Rows.{field_child_of}
use Rattle.es_rules_plain.specs.declared.no_sparse_arrays.TheConstants.{ELEMENTS}
use Rattle.es_rules_plain.proofs.no_sparse_arrays.has_hole.Given as goal

abbrev pub invariant-loop-index : goal.invariant-loop-index
invariant-loop-index l = (index : ℕ) → index < l.index → is_none (joined (field_child_of l.tree l.node ELEMENTS index)) ≡ false
