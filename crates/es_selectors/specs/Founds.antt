-- What the code finds at the end of a path of names.
use Rattle.std.specs.Prelude.{ℕ, ◌<◌, List, length}
use Rattle.std.specs.Str.{chars}
use Rattle.es_tree.specs.declared.shape.AttributeValue.TheVariants as value
use Rattle.es_tree.specs.Rows.{Row}
use Rattle.es_selectors.specs.declared.found.Found as code
use Rattle.es_selectors.specs.declared.found.Found.TheVariants as kept
use Rattle.es_selectors.specs.declared.spot.Spot.{Spot}
use Rattle.es_selectors.specs.Matches.{Found, Nothing, KindWord, Value, Count, Node, Field}
use Rattle.es_selectors.specs.Selects.{spot_of}

-- the same, in the tree under the node that counts as the root
abbrev pub found_of : ℕ → code.Found → Found Spot
found_of top kept.Nothing = Nothing
found_of top (kept.KindWord kind) = KindWord kind
found_of top (kept.Flag flag) = Value (value.Flag flag)
found_of top (kept.Words words) = Value (value.Words (chars words.now))
found_of top (kept.Count count) = Count count
found_of top (kept.Node node) = Node (spot_of top node)
found_of top (kept.Field node field) = Field (spot_of top node) field

-- what is found is of a node of the tree
abbrev pub IsWithin : List Row → code.Found → Type 0
IsWithin rows kept.Nothing = Unit {0}
IsWithin rows (kept.KindWord kind) = Unit {0}
IsWithin rows (kept.Flag flag) = Unit {0}
IsWithin rows (kept.Words words) = Unit {0}
IsWithin rows (kept.Count count) = Unit {0}
IsWithin rows (kept.Node node) = node < length rows
IsWithin rows (kept.Field node field) = node < length rows
