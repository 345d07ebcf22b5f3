-- What is left of pieces that are parted.
use denote.Ref.{Bor}
use Rattle.std.specs.Prelude.{ℕ, zero, suc, Bool, List, [], Option, None, Some, length}
use Rattle.std.specs.List.{slice_split}
use Rattle.es_globs.specs.declared.piece.Piece.{Piece}

abbrev pub segments_in : (Piece → Bool) → Option (Bor (List Piece)) → List (List Piece)
segments_in mark None = []
segments_in mark (Some rest) = slice_split mark rest.now

abbrev pub size_in : Option (Bor (List Piece)) → ℕ
size_in None = zero
size_in (Some rest) = suc (length rest.now)
