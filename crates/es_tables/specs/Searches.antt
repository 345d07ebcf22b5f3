-- The search in the rows that come no later than a text.
use Rattle.std.specs.Prelude.{ℕ, Bool, List, Option, nat_eq, slice_get, find, take_while, reverse}
use Rattle.std.specs.List.{starts_with}
use Rattle.std.specs.Option.{option_eq}
use Rattle.es_tables.specs.declared.row.Row.{Row}

-- the first bytes are the same, or there is none in both
abbrev pub begins_like : List ℕ → Row → Bool
begins_like bytes row = option_eq nat_eq (slice_get row.text.now 0) (slice_get bytes 0)

-- the last row whose text is a prefix, among the last rows that begin like the bytes
abbrev pub last_prefix_in : List ℕ → List Row → Option Row
last_prefix_in bytes rows =
    find (λ row. starts_with nat_eq bytes row.text.now) (take_while (begins_like bytes) (reverse rows))
