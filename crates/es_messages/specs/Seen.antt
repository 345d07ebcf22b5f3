-- Stretches of a text, and lists in them, as the code keeps them.
use Rattle.std.specs.Prelude.{ℕ, suc, zero, List, [], ◌∷◌, length, Option, None, Some}
use Rattle.es_messages.specs.declared.stretch.Stretch.{Stretch}
use Rattle.std.specs.List.{slice_split}
use Rattle.es_messages.specs.Classes.{is_comma}
use Rattle.es_messages.specs.Stretches.{Characters, listed, placed}

abbrev pub seen : Stretch → Characters
seen stretch = record { at = stretch.at; list = stretch.list.now }

-- the pieces between commas that are left, where this is left
abbrev pub placed_in : Option Stretch → List Characters
placed_in None = []
placed_in (Some stretch) = placed stretch.at (slice_split is_comma stretch.list.now)

-- the parts that are left of a list, of which this is left
abbrev pub listed_in : Option Stretch → List Characters
listed_in None = []
listed_in (Some stretch) = listed (seen stretch)

abbrev pub size_of : Option Stretch → ℕ
size_of None = zero
size_of (Some stretch) = suc (length stretch.list.now)
