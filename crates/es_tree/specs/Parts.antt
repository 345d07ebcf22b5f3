-- Parts of an array.
use Rattle.std.specs.Prelude.{ℕ, ◌≤◌, List, map, slice_range}
use Rattle.es_tree.specs.declared.part.Part.{Part}

-- the part stands in an array of this length
pub record IsPart (length : ℕ) (part : Part) : Type 0 where
  pub ordered : part.start ≤ part.end
  pub within : part.end ≤ length

-- the items of the part
abbrev pub part_of : {A : Type 0} → List A → Part → List A
part_of items part = slice_range items part.start part.end

-- the items of each part
abbrev pub parts_of : {A : Type 0} → List A → List Part → List (List A)
parts_of items parts = map (part_of items) parts
