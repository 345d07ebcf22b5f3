-- The first of nodes that pass a test, as one comes after the other.
use denote.Ref.{Bor}
use Rattle.std.specs.Prelude.{◌≡◌, ℕ, Bool, false, ◌&&◌, nat_eq, nat_lt, List, Option, Some, None, find, if◌then◌else◌}
use Rattle.std.specs.HashMap.{HashMap, get_by}
use Rattle.std.specs.List.{range_with_len}
use Rattle.std.specs.Str.{bytes_eq}

-- the node that was noted before, else this one, if it passes
abbrev pub noted : Bool → ℕ → Option ℕ → Option ℕ
noted passes node None = if passes then Some node else None
noted passes node (Some first) = Some first

-- the first of so many nodes that passes the test
abbrev pub first_of : (ℕ → Bool) → ℕ → Option ℕ
first_of test count = find test (range_with_len 0 count)

-- a node was noted, and it is before this one
abbrev pub is_noted_before : Option ℕ → ℕ → Bool
is_noted_before None node = false
is_noted_before (Some first) node = nat_lt first node

-- the node that is noted at a scope and a name
abbrev pub noted_at : {S : Type 0} → HashMap (ℕ × Bor (List ℕ)) ℕ S → ℕ → List ℕ → Option ℕ
noted_at notes scope name = get_by (λ key. nat_eq scope key.0 && bytes_eq name key.1.now) notes

-- at each scope and name the first of so many nodes that passes their test is noted
abbrev pub HasFirsts : {S : Type 0} → (ℕ → List ℕ → ℕ → Bool) → ℕ → HashMap (ℕ × Bor (List ℕ)) ℕ S → Type 0
HasFirsts test count notes = (scope : ℕ) (name : List ℕ) → noted_at notes scope name ≡ first_of (test scope name) count
