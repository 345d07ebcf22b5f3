use Rattle.es_skeleton.proofs.ForkLemmas.{go_never, go_alone, go_joined}
use Rattle.std.proofs.Common.{arith, length, ◌≤◌}
use Rattle.es_skeleton.proofs.step.go_on.Goals as goal

pub returns-in_ok-head-in-empty-clause-goes : goal.returns-in_ok-head-in-empty-clause-goes
returns-in_ok-head-in-empty-clause-goes c =
    go_never c.args.heads.now c.args.graph.now c.unreachable_of.new.graph c.in_ok-head-in-empty.head c.in-empty.len_below c.in_ok-head-in-empty.ensures.head c.in_ok-head-in-empty.ensures.ok

pub returns-in-len1-clause-goes : goal.returns-in-len1-clause-goes
returns-in-len1-clause-goes c =
    go_alone c.args.heads.now c.args.graph.now c.args.graph.now c.head-item.result c.in-len1.len_at_least c.in-len1.len_below c.head-item.is

pub returns-in_ok-head-in_default-clause-goes : goal.returns-in_ok-head-in_default-clause-goes
returns-in_ok-head-in_default-clause-goes c =
    let le : 1 ≤ length c.args.heads.now = let l = c.in_default.len_at_least in omega arith in
    go_joined c.args.heads.now c.args.graph.now c.join_of.new.graph c.in_ok-head-in_default.head le c.in_ok-head-in_default.ensures.head c.in_ok-head-in_default.ensures.ok
