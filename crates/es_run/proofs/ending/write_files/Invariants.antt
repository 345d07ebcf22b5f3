use Rattle.std.proofs.Common.{◌≡◌, ◌++◌, All, map}
use Rattle.es_run.specs.Stages.{IsPrepared, with_written, write_in}
use Rattle.es_run.proofs.ending.write_files.Given as goal

abbrev pub invariant-loop-file : goal.invariant-loop-file
invariant-loop-file g l =
    record {
      written : g.F.Files.state l.files ≡ with_written (g.F.Files.state l.initial.files) (map write_in l.yielded);
      quiet : g.E.Sink.state l.err ≡ g.E.Sink.state l.initial.err;
      prepared : All (IsPrepared l.config) l.file-iterator.rest.items;
      listed : l.fn.writes.items ≡ l.yielded ++ l.file-iterator.rest.items;
    }
