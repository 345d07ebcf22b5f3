-- Lists in general.
use Rattle.std.specs.Prelude.{Bool, List, length, nat_lt}
use Rattle.std.specs.List.{position_or_len}

-- one of the elements passes: the first that does stands in the list
abbrev pub one_passes : {X : Type 0} → (X → Bool) → List X → Bool
one_passes p xs = nat_lt (position_or_len p xs) (length xs)
