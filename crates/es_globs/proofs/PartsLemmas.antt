-- The parts of a name.
use Rattle.std.proofs.Common.{◌≡◌, ℕ, Bool, true, false, cond, List, [], ◌∷◌, length, nat_eq, Some, refl, ap}
use Rattle.std.specs.List.{onto_first, slice_split}
use Rattle.std.proofs.lemmas.Bool.{true≢false}
use Rattle.es_globs.specs.declared.piece.Piece.{Piece}
use Rattle.es_globs.specs.Fitting.{fits}
use Rattle.es_globs.specs.Patterns.{behind_slash, is_slash, is_star, name_parts, parts_left, takes, takes_part, up_to_slash}

-- the first part of a name, and the others
pub first_part : (cs : List ℕ) → name_parts cs ≡ up_to_slash cs ∷ parts_left (behind_slash cs)
first_part [] = refl
first_part (c ∷ cs) = cases (is_slash c) (first_part cs)
  where
    cases : (b : Bool) → slice_split is_slash cs ≡ up_to_slash cs ∷ parts_left (behind_slash cs)
        → cond b ([] ∷ slice_split is_slash cs) (onto_first c (slice_split is_slash cs)) ≡ cond b [] (c ∷ up_to_slash cs) ∷ parts_left (cond b (Some cs) (behind_slash cs))
    cases true given = refl
    cases false given = ap (onto_first c) given

-- a part that isn't empty takes what its pieces do, and an empty one takes nothing
pub part_fits : (part : List Piece) (bs : List ℕ) (b : Bool) → nat_eq (length part) 0 ≡ false → b ≡ fits is_star takes part bs → b ≡ takes_part part bs
part_fits [] bs b some is = absurd (true≢false some)
part_fits (piece ∷ part) bs b some is = is

pub part_fails : (part : List Piece) (bs : List ℕ) → false ≡ fits is_star takes part bs → false ≡ takes_part part bs
part_fails [] bs is = refl
part_fails (piece ∷ part) bs is = is
