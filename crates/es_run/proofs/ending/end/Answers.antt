use Rattle.std.proofs.Common.{◌∙◌, Global, Vec, ap, map, refl, subst}
use Rattle.es_run.specs.declared.reporting.Write.{Write}
use Rattle.es_run.specs.Stages.{StopsAtWrite, with_written, write_in}
use Rattle.es_run.proofs.EndingLemmas.{printed_ends, stopped_ends}
use Rattle.es_run.proofs.ending.end.Goals as goal

pub returns-in-Some : goal.returns-in-Some
returns-in-Some g c =
    stopped_ends c.args.config.now c.args.made _ _ c.in-Some.status refl
    (subst
    (λ (writes : Vec Write Global). StopsAtWrite c.args.config.now writes.items (g.F.Files.state c.args.files.now)
    (g.F.Files.state c.write_files.new.files) (g.E.Sink.state c.args.err.now) (g.E.Sink.state c.write_files.new.err) c.in-Some.status)
    c.replace-writes.ensures.value c.in-Some.ensures.stopped)

pub returns : goal.returns
returns g c =
    printed_ends c.args.config.now c.args.made _ _ (g.E.Sink.state c.write_files.new.err) c.print.result
    (c.write_files.ensures.written c.in-None.is
    ∙ ap (λ (writes : Vec Write Global). with_written (g.F.Files.state c.args.files.now) (map write_in writes.items)) c.replace-writes.ensures.value)
    (c.write_files.ensures.quiet c.in-None.is) c.print.ensures.status c.print.ensures.done c.print.ensures.line c.print.ensures.quiet
    c.print.ensures.part c.print.ensures.told c.print.ensures.no_memory
