-- Numbers that are marked.
use Rattle.std.specs.Prelude.{◌≡◌, ℕ, Bool, false, ◌==◌, List, slice_get, unwrap_or}
use Rattle.std.specs.List.{list_any}

-- the number is one of these
abbrev pub has : List ℕ → ℕ → Bool
has numbers number = list_any (λ n. n == number) numbers

-- the mark of a number; none is past the last
abbrev pub is_marked : List Bool → ℕ → Bool
is_marked marks number = unwrap_or (slice_get marks number) false

-- just these numbers are marked
abbrev pub AreMarked : List ℕ → List Bool → Type 0
AreMarked numbers marks = (number : ℕ) → is_marked marks number ≡ has numbers number
