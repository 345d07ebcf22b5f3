use Rattle.std.proofs.Common.{ℕ, ◌≢◌, ◌<◌, Some, map}
use Rattle.std.specs.Prelude.{slice_get}
use Rattle.std.specs.Str.{chars}
use Rattle.es_host.specs.Kits.{meanings_of}
use Rattle.es_host.proofs.kit.KitKnown.place.Given as goal

abbrev pub invariant-loop-place : goal.invariant-loop-place
invariant-loop-place g l = (k : ℕ) → k < l.place → slice_get (map (λ meaning. meaning.id) (meanings_of g.R.Rule.meaning l.self)) k ≢ Some (chars l.id)
