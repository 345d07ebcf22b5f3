use Rattle.std.proofs.Common.{◌≡◌, arith, Some}
use Rattle.std.proofs.lemmas.Grind.{common_steps}
use Rattle.std.proofs.lemmas.Option.{gets}
use Rattle.es_tree.specs.Rows.{child_of}
use Rattle.es_tree.proofs.RowsLemmas.{child-after, child-within}
use Rattle.es_tree.proofs.tree.Tree.child.Goals as goal

pub returns-clause-after : goal.returns-clause-after
returns-clause-after c =
    let found : child_of c.args.self.now c.args.node c.args.index ≡ Some c.copied.result = grind (arith, common_steps, gets) in
    child-after c.args.self.now c.args.node c.args.index c.copied.result (rw c.self.view_is at c.self.invariant.1) found

pub returns-clause-within : goal.returns-clause-within
returns-clause-within c =
    let found : child_of c.args.self.now c.args.node c.args.index ≡ Some c.copied.result = grind (arith, common_steps, gets) in
    child-within c.args.self.now c.args.node c.args.index c.copied.result (rw c.self.view_is at c.self.invariant.1) found
