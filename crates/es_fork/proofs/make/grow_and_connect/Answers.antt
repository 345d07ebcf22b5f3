use Rattle.std.proofs.Common.{rules, length}
use Rattle.std.proofs.lemmas.Result.{on_err_weaker}
use Rattle.es_fork.specs.Edges.{IsCutBack}
use Rattle.es_fork.proofs.MakingLemmas.{cut_grown, cut_connected, AreFrom-grown}
use Rattle.es_fork.proofs.make.grow_and_connect.Goals as goal

pub connect-requires : goal.connect-requires
connect-requires c = AreFrom-grown c.args.segments.now.items _ c.args.flags.now _ c.in_ok-grow.ensures.ok c.requires.leads.from

pub returns-clause-err : goal.returns-clause-err
returns-clause-err c =
    on_err_weaker c.connect.result (λ kept. cut_connected c.args.segments.now.items _ _ c.args.flags.now c.requires.closed c.in_ok-grow.ensures.ok (kept (length c.args.segments.now.items) (λ edge held. c.requires.leads.past edge.0 edge.1 held))) c.connect.ensures.err

pub returns-in_err-grow-clause-err : goal.returns-in_err-grow-clause-err
returns-in_err-grow-clause-err c =
    let cut : IsCutBack c.args.segments.now.items c.grow.new.segments.items = cut_grown _ _ c.requires.closed c.in_err-grow.ensures.err in
    search (rules, cut)
