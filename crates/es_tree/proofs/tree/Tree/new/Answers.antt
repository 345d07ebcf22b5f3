use Rattle.std.proofs.Common.{◌≡◌, ◌∙◌, refl}
use Rattle.es_tree.specs.Numbering.{rows_of}
use Rattle.es_tree.proofs.RowsLemmas.{is_numbered}
use Rattle.es_tree.proofs.SpansLemmas.{list_all-rows_of}
use Rattle.es_tree.proofs.tree.Tree.new.Goals as goal

pub invariant_of-result : goal.invariant_of-result
invariant_of-result c =
    let rows : c.number.new.rows ≡ rows_of c.args.root = rw (c.in_ok-number.ensures, c.into_shape-root.ensures, c.in_ok-rows.ensures) refl in
    (c.in_ok-nodes.ensures.ok ∙ c.len.ensures, rw rows (is_numbered c.args.root))

pub returns-clause-spans : goal.returns-clause-spans
returns-clause-spans c = λ test h.
    let rows : c.number.new.rows ≡ rows_of c.args.root = rw (c.in_ok-number.ensures, c.into_shape-root.ensures, c.in_ok-rows.ensures) refl in
    rw rows (list_all-rows_of test c.args.root h)
