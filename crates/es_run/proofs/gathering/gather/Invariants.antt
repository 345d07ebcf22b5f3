use Rattle.std.proofs.Common.{◌≡◌, ◌≤◌, ◌++◌, All, Some, map}
use Rattle.es_config.specs.Outcomes.{outcome_in}
use Rattle.es_files.specs.Outside.{Held}
use Rattle.es_run.specs.Gathering.{gathered, most_total_bytes}
use Rattle.es_run.specs.Stages.{KeepsPart, name_in, named_part_in}
use Rattle.es_run.proofs.GatheringLemmas.{behind}
use Rattle.es_run.proofs.gathering.gather.Given as goal

abbrev pub invariant-loop-name : goal.invariant-loop-name
invariant-loop-name g l = let decides = outcome_in l.config in
    record {
      few : l.total ≤ most_total_bytes;
      still : g.F.Files.state l.files ≡ g.F.Files.state l.initial.files;
      value : (held : Held) → (g.F.Files.state l.initial.files).holds ≡ Some held →
          behind (map named_part_in l.parts.items) (gathered l.inline decides held l.total l.name-iterator.rest.items)
          ≡ gathered l.inline decides held 0 l.fn.names;
      taken : All (λ named. KeepsPart l.config named.1) l.parts.items;
      named : map name_in l.parts.items ≡ l.yielded;
      listed : l.fn.names ≡ l.yielded ++ l.name-iterator.rest.items;
    }
