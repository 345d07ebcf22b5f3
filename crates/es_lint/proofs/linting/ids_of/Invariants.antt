use Rattle.std.proofs.Common.{◌≡◌, take}
use Rattle.es_host.specs.Kits.{meanings_of}
use Rattle.es_lint.specs.Lintings.{ids_of}
use Rattle.es_lint.proofs.linting.ids_of.Given as goal

abbrev pub invariant-loop-place : goal.invariant-loop-place
invariant-loop-place g l = l.ids.items ≡ take l.place (ids_of (meanings_of g.R.Rule.meaning l.kit))
