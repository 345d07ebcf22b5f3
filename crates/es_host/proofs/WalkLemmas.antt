-- The walk through a node, by the walks through its children.
use Rattle.std.proofs.Common.{◌≡◌, ◌∙◌, ℕ, zero, suc, ◌+◌, ◌<◌, ◌≤◌, true, false, List, [], ◌∷◌, ◌++◌, slice_index_or, take, length, append_assoc, append-nil, ap, sym, refl, arith, Option, Some, None}
use Rattle.std.specs.Prelude.{option_map, slice_get, unwrap_or}
use Rattle.std.specs.List.{flat_map}
use Rattle.std.proofs.lemmas.Option.{slice_get-get_or}
use Rattle.std.proofs.Math.Seq.{take-suc}
use Rattle.std.proofs.lemmas.Grind.{flat_map-append}
use Rattle.std.proofs.lemmas.List.{take_all}
use Rattle.es_tree.specs.Rows.{IsNumbered, Row, child_of, kind_of}
use Rattle.es_host.proofs.ListsLemmas.{flat_map-alike}
use Rattle.es_host.specs.Walk.{Moment, children, moment, walk_from, walk_within}

-- a node of which something is known is one of the rows
pub kind-within : (rows : List Row) (node kind : ℕ) → kind_of rows node ≡ Some kind → node < length rows
kind-within [] node kind is = cc
kind-within (row ∷ rows) zero kind is = omega arith
kind-within (row ∷ rows) (suc node) kind is = let rest = kind-within rows node kind is in omega (arith, rest)

pub kind-there : (rows : List Row) (node : ℕ) → node < length rows → (kind : ℕ) × (kind_of rows node ≡ Some kind)
kind-there [] node within = absurd (omega (arith, within))
kind-there (row ∷ rows) zero within = (row.kind, refl)
kind-there (row ∷ rows) (suc node) within = kind-there rows node (omega (arith, within))

child_at : (rows : List Row) (node index : ℕ) (other : ℕ) → index < length (children rows node)
    → child_of rows node index ≡ Some (Some (slice_index_or (children rows node) index other))
child_at rows node index other = of_row (slice_get rows node)
  where
    of_row : (row : Option Row) → index < length (unwrap_or (option_map (λ r. r.children) row) [])
        → option_map (λ r. slice_get r.children index) row ≡ Some (Some (slice_index_or (unwrap_or (option_map (λ r. r.children) row) []) index other))
    of_row None within = absurd (omega (arith, within))
    of_row (Some row) within = ap (λ c. Some c) (slice_get-get_or row.children index other within)

-- children come behind their node
pub child-behind : (rows : List Row) → IsNumbered rows → (node index other : ℕ) → index < length (children rows node)
    → (node < slice_index_or (children rows node) index other) × (slice_index_or (children rows node) index other < length rows)
child-behind rows numbers node index other within =
    numbers.children node index (slice_index_or (children rows node) index other) (child_at rows node index other within)

-- what a child index that is there, or isn't, tells of the children
pub child-there : (rows : List Row) (node index child : ℕ) → child_of rows node index ≡ Some (Some child)
    → (index < length (children rows node)) × (slice_index_or (children rows node) index child ≡ child)
child-there rows node index child = of_row (slice_get rows node)
  where
    inside : (xs : List ℕ) (i : ℕ) → slice_get xs i ≡ Some child → (i < length xs) × (slice_index_or xs i child ≡ child)
    inside [] i is = cc
    inside (x ∷ xs) zero is = (omega arith, cc)
    inside (x ∷ xs) (suc i) is = let rest = inside xs i is in (omega (arith, rest.0), rest.1)

    of_row : (row : Option Row) → option_map (λ r. slice_get r.children index) row ≡ Some (Some child)
        → (index < length (unwrap_or (option_map (λ r. r.children) row) [])) × (slice_index_or (unwrap_or (option_map (λ r. r.children) row) []) index child ≡ child)
    of_row None is = cc
    of_row (Some row) is = let one : slice_get row.children index ≡ Some child = cc in inside row.children index one

pub child-past : (rows : List Row) (node index : ℕ) → child_of rows node index ≡ Some None → length (children rows node) ≤ index
child-past rows node index = of_row (slice_get rows node)
  where
    outside : (xs : List ℕ) (i : ℕ) → slice_get xs i ≡ None → length xs ≤ i
    outside [] i is = omega arith
    outside (x ∷ xs) zero is = cc
    outside (x ∷ xs) (suc i) is = let rest = outside xs i is in omega (arith, rest)

    of_row : (row : Option Row) → option_map (λ r. slice_get r.children index) row ≡ Some None
        → length (unwrap_or (option_map (λ r. r.children) row) []) ≤ index
    of_row None is = cc
    of_row (Some row) is = let none : slice_get row.children index ≡ None = cc in outside row.children index none

-- more steps than there are nodes from this one on change nothing
enough : (rows : List Row) → IsNumbered rows → (s t : ℕ) (path : List ℕ) (node : ℕ) → node < length rows → length rows ≤ node + s → length rows ≤ node + t
    → walk_within s rows path node ≡ walk_within t rows path node
enough rows numbers zero t path node within least most = absurd (omega (arith, within, least))
enough rows numbers (suc s) zero path node within least most = absurd (omega (arith, within, most))
enough rows numbers (suc s) (suc t) path node within least most =
    ap (λ inside. moment false path node ∷ (inside ++ moment true path node ∷ []))
    (flat_map-alike (walk_within s rows (path ++ node ∷ [])) (walk_within t rows (path ++ node ∷ [])) (children rows node) (λ k d h.
    let behind = child-behind rows numbers node k d h in
    let child : ℕ = slice_index_or (children rows node) k d in
    let below : length rows ≤ child + s = omega (arith, behind.0, least) in
    let above : length rows ≤ child + t = omega (arith, behind.0, most) in
    enough rows numbers s t (path ++ node ∷ []) child behind.1 below above))

pub walk-step : (rows : List Row) → IsNumbered rows → (path : List ℕ) (node : ℕ) → node < length rows
    → walk_from rows path node
    ≡ moment false path node ∷ (flat_map (walk_from rows (path ++ node ∷ [])) (children rows node) ++ moment true path node ∷ [])
walk-step [] numbers path node within = absurd (omega (arith, within))
walk-step (row ∷ rest) numbers path node within =
    let rows : List Row = row ∷ rest in
    ap (λ inside. moment false path node ∷ (inside ++ moment true path node ∷ []))
    (flat_map-alike (walk_within (length rest) rows (path ++ node ∷ [])) (walk_from rows (path ++ node ∷ [])) (children rows node) (λ k d h.
    let behind = child-behind rows numbers node k d h in
    let child : ℕ = slice_index_or (children rows node) k d in
    let below : length rows ≤ child + length rest = omega (arith, behind.0) in
    let above : length rows ≤ child + length rows = omega arith in
    enough rows numbers (length rest) (length rows) (path ++ node ∷ []) child behind.1 below above))

-- the walks through one more child
pub children-more : (rows : List Row) (path : List ℕ) (node index next child : ℕ) → child_of rows node index ≡ Some (Some child) → next ≡ index + 1
    → flat_map (walk_from rows path) (take next (children rows node))
    ≡ flat_map (walk_from rows path) (take index (children rows node)) ++ walk_from rows path child
children-more rows path node index next child is one =
    let there = child-there rows node index child is in
    let more : next ≡ suc index = omega (arith, one) in
    ap (λ (n : ℕ). flat_map (walk_from rows path) (take n (children rows node))) more
    ∙ ap (flat_map (walk_from rows path)) (take-suc (children rows node) index child there.0)
    ∙ flat_map-append (walk_from rows path) (take index (children rows node)) (slice_index_or (children rows node) index child ∷ [])
    ∙ ap (λ moments. flat_map (walk_from rows path) (take index (children rows node)) ++ moments)
    (append-nil (walk_from rows path (slice_index_or (children rows node) index child)) ∙ ap (walk_from rows path) there.1)

-- the walks through all children
pub children-all : (rows : List Row) (path : List ℕ) (node index : ℕ) → child_of rows node index ≡ Some None
    → flat_map (walk_from rows path) (take index (children rows node)) ≡ flat_map (walk_from rows path) (children rows node)
children-all rows path node index past =
    ap (flat_map (walk_from rows path)) (take_all index (children rows node) (child-past rows node index past))

-- the moments before, then the walk through a node
pub walk-all : (rows : List Row) → IsNumbered rows → (path : List ℕ) (node : ℕ) → node < length rows → (before : List Moment)
    → ((before ++ moment false path node ∷ []) ++ flat_map (walk_from rows (path ++ node ∷ [])) (children rows node)) ++ moment true path node ∷ []
    ≡ before ++ walk_from rows path node
walk-all rows numbers path node within before =
    let inside = flat_map (walk_from rows (path ++ node ∷ [])) (children rows node) in
    let enter : List Moment = moment false path node ∷ [] in
    let leave : List Moment = moment true path node ∷ [] in
    append_assoc (before ++ enter) inside leave ∙ append_assoc before enter (inside ++ leave)
    ∙ ap (λ moments. before ++ moments) (sym (walk-step rows numbers path node within))
