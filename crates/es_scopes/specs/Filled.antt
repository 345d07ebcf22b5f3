-- The scopes of the nodes so far, as the code fills them.
use Rattle.std.specs.Prelude.{ℕ, ◌≡◌, List, length, map}
use Rattle.std.specs.List.{flat_map, range_with_len}
use Rattle.es_tree.specs.Rows.{Row}
use Rattle.es_scopes.specs.declared.places.Places.{Places}
use Rattle.es_scopes.specs.Chains.{AreNested}
use Rattle.es_scopes.specs.Places.{inside, own_scope, scopes_at, stands}

-- these are the places of so many nodes
pub record ArePlaces (rows : List Row) (count : ℕ) (places : Places) : Type 0 where
  pub scopes : places.scopes.items ≡ flat_map (scopes_at rows) (range_with_len 0 count)
  pub owns : places.owns.items ≡ map (own_scope rows) (range_with_len 0 count)
  pub stands : places.stands.items ≡ map (stands rows) (range_with_len 0 count)
  pub inside : places.inside.items ≡ map (inside rows) (range_with_len 0 count)

-- these are the places of a whole tree
pub record AreAllPlaces (rows : List Row) (places : Places) : Type 0 where
  pub all : ArePlaces rows (length rows) places
  pub nested : AreNested places.scopes.items
