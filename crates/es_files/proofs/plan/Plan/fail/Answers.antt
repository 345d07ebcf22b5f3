use Rattle.std.proofs.Common.{ap, ◌∙◌}
use Rattle.es_files.specs.Fakes.{Calls, with_failure}
use Rattle.es_files.proofs.SeenLemmas.{numbers_of-insert}
use Rattle.es_files.proofs.plan.Plan.fail.Goals as goal

pub returns-clause-ok : goal.returns-clause-ok
returns-clause-ok c =
    ap (λ fails. let calls : Calls = record { made = c.self.inside.made; fails = fails } in calls)
    (numbers_of-insert c.self.inside.fails c.insert.new.self c.args.call c.args.left c.in_ok-insert.ensures.updates)
    ∙ ap (λ calls. with_failure calls c.args.call c.args.left) c.self.view_is
