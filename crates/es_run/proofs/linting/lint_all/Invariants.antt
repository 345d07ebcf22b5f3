use Rattle.std.proofs.Common.{◌≡◌, suc, ◌+◌, ◌*◌, ◌++◌, All, length, map}
use Rattle.es_host.specs.Kits.{meanings_of}
use Rattle.es_lint.specs.Passes.{most_passes}
use Rattle.es_lint.specs.Results.{AtMost}
use Rattle.es_run.specs.Linting.{linted_count}
use Rattle.es_run.specs.Stages.{AreLinted, FitsPart, named_part_in}
use Rattle.es_run.proofs.linting.lint_all.Given as goal

abbrev pub invariant-loop-name : goal.invariant-loop-name
invariant-loop-name g l = let meanings = meanings_of g.R.Rule.meaning l.initial.kit in
    record {
      linted : AreLinted meanings l.mode (map named_part_in l.yielded) l.initial.kit.lints l.results.items l.kit.lints;
      same : meanings_of g.R.Rule.meaning l.kit ≡ meanings;
      fits : All (λ named. FitsPart meanings named.1) l.name-iterator.rest.items;
      most : AtMost (suc (most_passes l.mode) * length l.yielded) l.initial.kit.lints l.kit.lints;
      ticked : l.steps ≡ l.initial.steps + linted_count (map named_part_in l.yielded);
      listed : l.fn.parts.items ≡ l.yielded ++ l.name-iterator.rest.items;
    }
