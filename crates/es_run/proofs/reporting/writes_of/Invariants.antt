use Rattle.std.proofs.Common.{◌≡◌, ◌++◌, All, map}
use Rattle.es_run.specs.Reporting.{writes_of}
use Rattle.es_run.specs.Stages.{IsPrepared, write_in}
use Rattle.es_run.proofs.reporting.writes_of.Given as goal

abbrev pub invariant-loop-name : goal.invariant-loop-name
invariant-loop-name l =
    record {
      value : map write_in l.writes.items ++ writes_of l.name-iterator.rest.items ≡ writes_of l.fn.results.items;
      prepared : All (IsPrepared l.config) l.writes.items;
    }
