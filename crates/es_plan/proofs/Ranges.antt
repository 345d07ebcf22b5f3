-- Ranges of numbers of values.
use Rattle.std.proofs.Common.{◌≡◌, Option, Some, None, ap}
use Rattle.std.specs.Option.{IsSomeAnd}
use Rattle.clap.specs.declared.builder.range.ValueRange.{ValueRange}

pub range_is : (o : Option ValueRange) (v : ValueRange) → IsSomeAnd o (λ r. r ≡ v) → o ≡ Some v
range_is None v h = absurd h
range_is (Some x) v h = ap Some h
