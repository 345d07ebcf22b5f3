use Rattle.std.proofs.Common.{◌≡◌}
use Rattle.es_run.specs.Generated.{generated_text}
use Rattle.es_run.proofs.generating.generated_text.Given as goal

abbrev pub invariant-loop-index : goal.invariant-loop-index
invariant-loop-index l = l.text.items ≡ generated_text l.index
