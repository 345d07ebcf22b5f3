-- The rows of a table: their order, the prefixes among their texts, and the list that they number.
use Rattle.std.specs.Prelude.{ℕ, ◌≡◌, ◌≢◌, ◌≤◌, ◌↔◌, List, [], length, map, All, AllPairs, Contains, IsTrue, Some, nat_eq, slice_get}
use Rattle.std.specs.Ordering.{nat_cmp}
use Rattle.std.specs.declared.cmp.Ordering.TheVariants.{Less}
use Rattle.std.specs.Cmp.Lexicographic.{slice_cmp}
use Rattle.std.specs.List.{starts_with}
use Rattle.es_tables.specs.declared.row.Row.{Row}

-- the rows as pairs of a text and a code
abbrev pub entries : List Row → List (List ℕ × ℕ)
entries = map (λ row. (row.text.now, row.code))

-- a row has this text and this code
abbrev pub HasRow : List Row → List ℕ → ℕ → Type 0
HasRow rows text code = Contains (entries rows) (text, code)

-- the texts stand in increasing order of their bytes, and none is empty
pub record IsOrdered (rows : List Row) : Type 0 where
  pub increasing : AllPairs (λ row later. slice_cmp nat_cmp row.text.now later.text.now ≡ Less) rows
  pub filled : All (λ row. row.text.now ≢ []) rows

abbrev pub IsPrefix : List ℕ → List ℕ → Type 0
IsPrefix text bytes = IsTrue (starts_with nat_eq bytes text)

-- the text is a prefix, and no row's text that is one is longer
pub record IsLongestPrefix (rows : List Row) (bytes text : List ℕ) : Type 0 where
  pub prefix : IsPrefix text bytes
  pub longest : (other : List ℕ) (code : ℕ) → HasRow rows other code → IsPrefix other bytes → length other ≤ length text

-- the rows are the words, each with its index in their list as its code
abbrev pub IsNumbered : List (List ℕ) → List Row → Type 0
IsNumbered words rows = (text : List ℕ) (code : ℕ) → (slice_get words code ≡ Some text) ↔ HasRow rows text code
