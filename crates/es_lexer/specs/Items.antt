-- Items of which there may be many.
use Rattle.std.specs.Prelude.{◌≡◌, ℕ, ◌<◌, List, length, Option, Some}

-- an item takes one character at least
abbrev pub Shrinks : (List ℕ → Option (List ℕ)) → Type 0
Shrinks item = (cs ds : List ℕ) → item cs ≡ Some ds → length ds < length cs
