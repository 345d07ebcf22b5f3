use Rattle.std.proofs.Common.{◌≡◌, ◌∙◌, ◌+◌, ap, sym, subst, length, Some, arith}
use Rattle.es_early.specs.Lookups.{IsLeastCode}
use Rattle.es_early.proofs.ErrorsLemmas.{FirstBelow, first-added, first-passed, nothing-whole, some-whole}
use Rattle.es_early.proofs.first_error.early.Goals as goal
use Rattle.es_early.proofs.first_error.early.Goals.{in-Some, in_default}

pub loop-node-preserved : goal.loop-node-preserved
loop-node-preserved c =
    let rows = c.args.tree.now in
    let node = c.loop-node.node in
    let below = FirstBelow rows c.args.source_type (node + 1) in
    let least = IsLeastCode rows c.args.source_type node in
    elim c.match-branch-3.branch [
      | in-Some w ↦
          subst below (sym (w.first-is ∙ ap (λ early. Some early) w.earlier.ensures))
          (first-added rows c.args.source_type node c.loop-node.first w.in-Some.code w.span-span.result c.loop-node.invariant
          (subst least w.in-Some.is c.in_ok-code.ensures) w.span-span.ensures)
      | in_default w ↦
          subst below (sym w.first-is)
          (first-passed rows c.args.source_type node c.loop-node.first c.loop-node.invariant (subst least w.in_default.is c.in_ok-code.ensures))
    ]

pub returns-clause-some : goal.returns-clause-some
returns-clause-some c =
    let whole : c.loop-node.node ≡ length c.args.tree.now = omega arith in
    some-whole c.args.tree.now c.args.source_type c.loop-node.node c.loop-node.first whole c.loop-node.invariant

pub returns-clause-none : goal.returns-clause-none
returns-clause-none c =
    let whole : c.loop-node.node ≡ length c.args.tree.now = omega arith in
    nothing-whole c.args.tree.now c.args.source_type c.loop-node.node c.loop-node.first whole c.loop-node.invariant
