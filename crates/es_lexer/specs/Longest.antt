-- The longest punctuator that the bytes begin with.
use Rattle.std.specs.Prelude.{◌≡◌, ◌≤◌, ℕ, List, length, nat_eq, Some, slice_get, true}
use Rattle.std.specs.List.{starts_with}
use Rattle.es_tables.specs.Words.{punctuator_words}

-- the punctuator with this code has this text
abbrev pub IsWord : ℕ → List ℕ → Type 0
IsWord code text = slice_get punctuator_words code ≡ Some text

pub record IsLongest (bytes : List ℕ) (code : ℕ) (text : List ℕ) : Type 0 where
  pub at : IsWord code text
  pub begins : starts_with nat_eq bytes text ≡ true
  pub most : (j : ℕ) (w : List ℕ) → IsWord j w → starts_with nat_eq bytes w ≡ true
      → length w ≤ length text

-- no punctuator begins the bytes
abbrev pub HasNone : List ℕ → Type 0
HasNone bytes = (j : ℕ) (w : List ℕ) → IsWord j w → starts_with nat_eq bytes w ≡ true → ⊥
