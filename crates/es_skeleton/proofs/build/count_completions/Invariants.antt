use Rattle.std.proofs.Common.{◌≡◌, List, length}
use Rattle.es_skeleton.specs.declared.completion.Completion.{Completion}
use Rattle.es_skeleton.proofs.AwaitedLemmas.{Counted}
use Rattle.es_skeleton.proofs.build.count_completions.Given as goal

abbrev pub invariant-counts : goal.invariant-counts
invariant-counts l = record {
  counted : (seen : List Completion) × Counted seen l.rest.items l.all × (length seen ≡ l.count);
}

abbrev pub decreases-counts : goal.decreases-counts
decreases-counts l = length l.rest.items
