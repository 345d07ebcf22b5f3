-- In a numbered tree each child comes after its parent, and each node but the first has a parent.
use Rattle.std.proofs.Common.{◌≡◌, ◌∙◌, ◌⊎◌, inl, inr, ℕ, zero, suc, ◌+◌, ◌<◌, ◌≤◌, List, [], ◌∷◌, ◌++◌, Option, Some, None, length, sym, ap, refl, subst, arith, length-append}
use Rattle.std.specs.Prelude.{slice_get, IfSome}
use Rattle.es_tree.specs.Numbering.{rows_in, numbers_in, rows_of_all, numbers_of_all, filled, all_filled, row_of, numbered, rows_of}
use Rattle.es_tree.specs.Rows.{parent_of, child_of, IsNumbered}
use Rattle.es_tree.specs.Rows.{Row}
use Rattle.es_tree.specs.declared.shape.Shape.{Shape, roll-Shape}
use Rattle.es_tree.specs.declared.shape.Shape.TheOpen.{Shape-F}
use Rattle.es_tree.specs.declared.shape.Shape.TheShapes.{former-Shape-fields, former-Shape-fields-at-2}
use Rattle.es_tree.specs.declared.shape.Shape.TheFolds.{ind-Shape}
use Rattle.es_tree.specs.declared.shape.Shape.TheViews.{out-roll-Shape}
use Rattle.es_tree.proofs.NumberingLemmas.{numbered-layer}

-- the numbers are from `low` on and below `high`
abbrev Within : ℕ → ℕ → List ℕ → Type 0
Within low high [] = Unit {0}
Within low high (number ∷ rest) = (low ≤ number) × (number < high) × Within low high rest

-- the children of rows, of which the first has the number `at`, come after their parents and before `end`
abbrev Ordered : ℕ → ℕ → List Row → Type 0
Ordered at end [] = Unit {0}
Ordered at end (row ∷ rest) = Within (at + 1) end row.children × Ordered (at + 1) end rest

-- each of the rows, of which the first has the number `at`, has a parent before it
abbrev Below : ℕ → List Row → Type 0
Below at [] = Unit {0}
Below at (row ∷ rest) = ((parent : ℕ) × (row.parent ≡ Some parent) × (parent < at)) × Below (at + 1) rest

-- each of the rows has a parent, and this fact holds of it
abbrev Parents : (ℕ → Type 0) → List Row → Type 0
Parents P [] = Unit {0}
Parents P (row ∷ rest) = ((parent : ℕ) × (row.parent ≡ Some parent) × P parent) × Parents P rest

-- of the rows, of which the first has the number `at`, none has a parent before that of a row that stands between
abbrev Nested : ℕ → List Row → Type 0
Nested at [] = Unit {0}
Nested at (row ∷ rest) =
    ((above : ℕ) → row.parent ≡ Some above → Parents (λ parent. parent < at → parent ≤ above) rest) × Nested (at + 1) rest

-- the rows, of which the first has the number `at`, are those of children of the node `low` and of all below them
abbrev Inside : ℕ → ℕ → List Row → Type 0
Inside low at rows = Parents (λ parent. (parent ≡ low) ⊎ (at ≤ parent)) rows × Nested at rows

-- the rows of one node, whose number is `at`, and of all below it
abbrev Sound : Option ℕ → ℕ → List Row → Type 0
Sound parent at [] = ⊥
Sound parent at (row ∷ rest) =
    (row.parent ≡ parent) × Below (at + 1) rest × Ordered at (at + length (row ∷ rest)) (row ∷ rest) × Inside at (at + 1) rest

Parents-weaker : (P Q : ℕ → Type 0) (rows : List Row) → ((parent : ℕ) → P parent → Q parent) → Parents P rows → Parents Q rows
Parents-weaker P Q [] weaker parents = tt
Parents-weaker P Q (row ∷ rest) weaker parents =
    ((parents.0.0, parents.0.1, weaker parents.0.0 parents.0.2), Parents-weaker P Q rest weaker parents.1)

Parents-append : (P : ℕ → Type 0) (first second : List Row) → Parents P first → Parents P second → Parents P (first ++ second)
Parents-append P [] second f s = s
Parents-append P (row ∷ rest) second f s = (f.0, Parents-append P rest second f.1 s)

from_low : (low at parent : ℕ) → low < at → (parent ≡ low) ⊎ (at ≤ parent) → low ≤ parent
from_low low at parent before (inl same) = omega (arith, same)
from_low low at parent before (inr after) = omega (arith, after)

from_lower : (low at next parent : ℕ) → at ≤ next → (parent ≡ low) ⊎ (next ≤ parent) → (parent ≡ low) ⊎ (at ≤ parent)
from_lower low at next parent before (inl same) = inl same
from_lower low at next parent before (inr after) = inr (omega (arith, after))

not_between : (low at next parent above : ℕ) → at ≤ next → low ≤ above → (parent ≡ low) ⊎ (next ≤ parent) → parent < at → parent ≤ above
not_between low at next parent above before least (inl same) within = omega (arith, same)
not_between low at next parent above before least (inr after) within = omega (arith, after, within)

Nested-append : (low at next : ℕ) (first second : List Row) → next ≡ at + length first
    → Parents (λ parent. low ≤ parent) first → Nested at first
    → Parents (λ parent. (parent ≡ low) ⊎ (next ≤ parent)) second → Nested next second → Nested at (first ++ second)
Nested-append low at next [] second is parents f later s = let same : next ≡ at = omega (arith, is) in subst (λ (n : ℕ). Nested n second) same s
Nested-append low at next (row ∷ rest) second is parents f later s = (
  λ above own.
      let least : low ≤ above = let same : parents.0.0 ≡ above = cc in omega (arith, same, parents.0.2) in
      Parents-append (λ parent. parent < at → parent ≤ above) rest second (f.0 above own)
      (Parents-weaker (λ parent. (parent ≡ low) ⊎ (next ≤ parent)) (λ parent. parent < at → parent ≤ above) second
      (λ parent. not_between low at next parent above (omega (arith, is)) least) later),
  Nested-append low (at + 1) next rest second (omega (arith, is)) parents.1 f.1 later s,
)

Inside-append : (low at : ℕ) (first second : List Row) → low < at → Inside low at first → Inside low (at + length first) second → Inside low at (first ++ second)
Inside-append low at first second before f s =
    let next : ℕ = at + length first in (
      Parents-append (λ parent. (parent ≡ low) ⊎ (at ≤ parent)) first second f.0
          (Parents-weaker (λ parent. (parent ≡ low) ⊎ (next ≤ parent)) (λ parent. (parent ≡ low) ⊎ (at ≤ parent)) second
          (λ parent. from_lower low at next parent (omega arith)) s.0),
      Nested-append low at next first second refl
          (Parents-weaker (λ parent. (parent ≡ low) ⊎ (at ≤ parent)) (λ parent. low ≤ parent) first (λ parent. from_low low at parent before) f.0)
          f.1 s.0 s.1,
    )

Sound-inside : (parent at : ℕ) (rows : List Row) → parent < at → Sound (Some parent) at rows → Inside parent at rows
Sound-inside parent at [] before sound = absurd sound
Sound-inside parent at (row ∷ rest) before sound = (
  (
    (parent, sound.0, inl refl),
    Parents-weaker (λ p. (p ≡ at) ⊎ (at + 1 ≤ p)) (λ p. (p ≡ parent) ⊎ (at ≤ p)) rest
        (λ p either. inr (from_low at (at + 1) p (omega arith) either)) sound.3.0,
  ),
  (
    λ above own. Parents-weaker (λ p. (p ≡ at) ⊎ (at + 1 ≤ p)) (λ p. p < at → p ≤ above) rest
        (λ p either within. absurd (omega (arith, within, from_low at (at + 1) p (omega arith) either))) sound.3.0,
    sound.3.1,
  ),
)

Within-wider : (low high low' high' : ℕ) (numbers : List ℕ) → low' ≤ low → high ≤ high' → Within low high numbers → Within low' high' numbers
Within-wider low high low' high' [] l h within = tt
Within-wider low high low' high' (number ∷ rest) l h within =
    (omega (arith, within.0), omega (arith, within.1), Within-wider low high low' high' rest l h within.2)

Within-append : (low high : ℕ) (first second : List ℕ) → Within low high first → Within low high second → Within low high (first ++ second)
Within-append low high [] second f s = s
Within-append low high (number ∷ rest) second f s = (f.0, f.1, Within-append low high rest second f.2 s)

Ordered-wider : (at end end' : ℕ) (rows : List Row) → end ≤ end' → Ordered at end rows → Ordered at end' rows
Ordered-wider at end end' [] e ordered = tt
Ordered-wider at end end' (row ∷ rest) e ordered =
    (Within-wider (at + 1) end (at + 1) end' row.children (omega arith) e ordered.0, Ordered-wider (at + 1) end end' rest e ordered.1)

Ordered-append : (at next end : ℕ) (first second : List Row) → next ≡ at + length first → Ordered at end first → Ordered next end second → Ordered at end (first ++ second)
Ordered-append at next end [] second is f s = let same : next ≡ at = omega (arith, is) in subst (λ (n : ℕ). Ordered n end second) same s
Ordered-append at next end (row ∷ rest) second is f s =
    (f.0, Ordered-append (at + 1) next end rest second (omega (arith, is)) f.1 s)

Below-append : (at next : ℕ) (first second : List Row) → next ≡ at + length first → Below at first → Below next second → Below at (first ++ second)
Below-append at next [] second is f s = let same : next ≡ at = omega (arith, is) in subst (λ (n : ℕ). Below n second) same s
Below-append at next (row ∷ rest) second is f s =
    (f.0, Below-append (at + 1) next rest second (omega (arith, is)) f.1 s)

Sound-below : (parent at : ℕ) (rows : List Row) → parent < at → Sound (Some parent) at rows → Below at rows
Sound-below parent at [] before sound = absurd sound
Sound-below parent at (row ∷ rest) before sound = ((parent, sound.0, before), sound.1)

Sound-ordered : (parent : Option ℕ) (at : ℕ) (rows : List Row) → Sound parent at rows → Ordered at (at + length rows) rows
Sound-ordered parent at [] sound = absurd sound
Sound-ordered parent at (row ∷ rest) sound = sound.2

Sound-some : (parent : Option ℕ) (at : ℕ) (rows : List Row) → Sound parent at rows → 0 < length rows
Sound-some parent at [] sound = absurd sound
Sound-some parent at (row ∷ rest) sound = omega arith

abbrev AlwaysSound : Shape → Type 0
AlwaysSound shape = (parent : Option ℕ) (at : ℕ) → Sound parent at (numbered shape parent at)

-- a node that is known to be sound
abbrev Known : Type 0
Known = (shape : Shape) × AlwaysSound shape

abbrev shapes_in : List (Option Known) → List (Option Shape)
shapes_in = former-Shape-fields-at-2.map Known Shape (λ known. known.0)

abbrev shapes : List (List (Option Known)) → List (List (Option Shape))
shapes = former-Shape-fields.map Known Shape (λ known. known.0)

-- what the rows of several children, from the number `next` on, and their numbers keep
abbrev Kept : ℕ → ℕ → List Row → List ℕ → Type 0
Kept parent next rows numbers =
    Below next rows × Ordered next (next + length rows) rows × Within next (next + length rows) numbers × Inside parent next rows

Kept-append : (parent next : ℕ) (first second : List Row) (ns ms : List ℕ) → parent < next
    → Kept parent next first ns → Kept parent (next + length first) second ms → Kept parent next (first ++ second) (ns ++ ms)
Kept-append parent next first second ns ms before f s =
    let after : ℕ = next + length first in
    let end : ℕ = next + length (first ++ second) in
    let long : length (first ++ second) ≡ length first + length second = length-append first second in (
      Below-append next after first second refl f.0 s.0,
      Ordered-append next after end first second refl
          (Ordered-wider next (next + length first) end first (omega (arith, long)) f.1)
          (Ordered-wider after (after + length second) end second (omega (arith, long)) s.1),
      Within-append next end ns ms
          (Within-wider next (next + length first) next end ns (omega arith) (omega (arith, long)) f.2)
          (Within-wider after (after + length second) next end ms (omega arith) (omega (arith, long)) s.2),
      Inside-append parent next first second before f.3 s.3,
    )

module _ (parent : ℕ) where
  kept_in : (next : ℕ) (field : List (Option Known)) → parent < next
      → Kept parent next (rows_in numbered parent next (shapes_in field)) (filled (numbers_in numbered parent next (shapes_in field)))
  kept_in next [] before = (tt, tt, tt, (tt, tt))
  kept_in next (None ∷ rest) before = kept_in next rest before
  kept_in next (Some known ∷ rest) before =
      let own : List Row = numbered known.0 (Some parent) next in
      let sound : Sound (Some parent) next own = known.1 (Some parent) next in
      let some : 0 < length own = Sound-some (Some parent) next own sound in
      let number : Kept parent next own (next ∷ []) =
      (Sound-below parent next own before sound, Sound-ordered (Some parent) next own sound, (omega arith, omega arith, tt), Sound-inside parent next own before sound) in
      Kept-append parent next own _ (next ∷ []) _ before number (kept_in (next + length own) rest (omega arith))

  kept_of_all : (next : ℕ) (fields : List (List (Option Known))) → parent < next
      → Kept parent next (rows_of_all numbered parent next (shapes fields)) (all_filled (numbers_of_all numbered parent next (shapes fields)))
  kept_of_all next [] before = (tt, tt, tt, (tt, tt))
  kept_of_all next (field ∷ rest) before =
      let own : List Row = rows_in numbered parent next (shapes_in field) in
      Kept-append parent next own _ (filled (numbers_in numbered parent next (shapes_in field))) _ before
      (kept_in next field before) (kept_of_all (next + length own) rest (omega arith))

sound-step : (parent : Option ℕ) (at : ℕ) (node : Shape-F Shape)
    → Kept at (at + 1) (rows_of_all numbered at (at + 1) node.fields) (all_filled (numbers_of_all numbered at (at + 1) node.fields))
    → Sound parent at (row_of node parent (numbers_of_all numbered at (at + 1) node.fields) ∷ rows_of_all numbered at (at + 1) node.fields)
sound-step parent at node kept =
    let rows : List Row = rows_of_all numbered at (at + 1) node.fields in
    let end : (at + 1) + length rows ≡ at + length (row_of node parent (numbers_of_all numbered at (at + 1) node.fields) ∷ rows) = omega arith in
    let P : ℕ → Type 0 = λ (n : ℕ). Within (at + 1) n (all_filled (numbers_of_all numbered at (at + 1) node.fields)) × Ordered (at + 1) n rows in
    (refl, kept.0, subst P end (kept.2, kept.1), kept.3)

always_sound : (shape : Shape) → AlwaysSound shape
always_sound = ind-Shape AlwaysSound (λ node known is parent at.
    let kept : Kept at (at + 1) (rows_of_all numbered at (at + 1) node.fields) (all_filled (numbers_of_all numbered at (at + 1) node.fields)) =
    subst (λ (n : Shape-F Shape). Kept at (at + 1) (rows_of_all numbered at (at + 1) n.fields) (all_filled (numbers_of_all numbered at (at + 1) n.fields))) is
    (kept_of_all at (at + 1) known.fields (omega arith)) in
    let layer : numbered (roll-Shape node) parent at
    ≡ row_of node parent (numbers_of_all numbered at (at + 1) node.fields) ∷ rows_of_all numbered at (at + 1) node.fields =
    numbered-layer (roll-Shape node) parent at
    ∙ ap (λ (n : Shape-F Shape). row_of n parent (numbers_of_all numbered at (at + 1) n.fields) ∷ rows_of_all numbered at (at + 1) n.fields) (out-roll-Shape node) in
    subst (λ (rows : List Row). Sound parent at rows) (sym layer) (sound-step parent at node kept))

Within-at : (low high : ℕ) (numbers : List ℕ) (index number : ℕ) → Within low high numbers → slice_get numbers index ≡ Some number → (low ≤ number) × (number < high)
Within-at low high [] index number within is = cc
Within-at low high (first ∷ rest) zero number within is =
    let same : first ≡ number = cc in (omega (arith, same, within.0), omega (arith, same, within.1))
Within-at low high (first ∷ rest) (suc index) number within is = Within-at low high rest index number within.2 is

Ordered-at : (at end : ℕ) (rows : List Row) (node index child : ℕ) → Ordered at end rows → child_of rows node index ≡ Some (Some child)
    → (at + node < child) × (child < end)
Ordered-at at end [] node index child ordered is = cc
Ordered-at at end (row ∷ rest) zero index child ordered is =
    let found : slice_get row.children index ≡ Some child = cc in
    let within : ((at + 1) ≤ child) × (child < end) = Within-at (at + 1) end row.children index child ordered.0 found in
    (omega (arith, within.0), within.1)
Ordered-at at end (row ∷ rest) (suc node) index child ordered is =
    let later : ((at + 1) + node < child) × (child < end) = Ordered-at (at + 1) end rest node index child ordered.1 is in
    (omega (arith, later.0), later.1)

Below-at : (at : ℕ) (rows : List Row) (node parent : ℕ) → Below at rows → parent_of rows node ≡ Some (Some parent) → parent < at + node
Below-at at [] node parent below is = cc
Below-at at (row ∷ rest) zero parent below is =
    let same : below.0.0 ≡ parent = cc in omega (arith, same, below.0.2)
Below-at at (row ∷ rest) (suc node) parent below is =
    let later : parent < (at + 1) + node = Below-at (at + 1) rest node parent below.1 is in omega (arith, later)

Below-root : (at : ℕ) (rows : List Row) (node : ℕ) → Below at rows → parent_of rows node ≡ Some None → ⊥
Below-root at [] node below is = cc
Below-root at (row ∷ rest) zero below is = let parent : row.parent ≡ Some below.0.0 = below.0.1 in cc
Below-root at (row ∷ rest) (suc node) below is = Below-root (at + 1) rest node below.1 is

Parents-at : (P : ℕ → Type 0) (rows : List Row) (node parent : ℕ) → Parents P rows → parent_of rows node ≡ Some (Some parent) → P parent
Parents-at P [] node parent parents is = cc
Parents-at P (row ∷ rest) zero parent parents is = let same : parents.0.0 ≡ parent = cc in subst P same parents.0.2
Parents-at P (row ∷ rest) (suc node) parent parents is = Parents-at P rest node parent parents.1 is

Nested-at : (at : ℕ) (rows : List Row) (node parent between above : ℕ) → Nested at rows → parent_of rows node ≡ Some (Some parent)
    → parent < at + between → between ≤ node → parent_of rows between ≡ Some (Some above) → parent ≤ above
Nested-at at [] node parent between above nested is after before up = cc
Nested-at at (row ∷ rest) zero parent zero above nested is after before up = let same : parent ≡ above = cc in omega (arith, same)
Nested-at at (row ∷ rest) zero parent (suc between) above nested is after before up = absurd (omega (arith, before))
Nested-at at (row ∷ rest) (suc node) parent zero above nested is after before up =
    let own : row.parent ≡ Some above = cc in
    Parents-at (λ p. p < at → p ≤ above) rest node parent (nested.0 above own) is (omega (arith, after))
Nested-at at (row ∷ rest) (suc node) parent (suc between) above nested is after before up =
    Nested-at (at + 1) rest node parent between above nested.1 is (omega (arith, after)) (omega (arith, before)) up

nested-by : (row : Row) (rest : List Row) → row.parent ≡ None → Nested 1 rest
    → (node parent between above : ℕ) → parent_of (row ∷ rest) node ≡ Some (Some parent) → parent < between → between ≤ node
    → parent_of (row ∷ rest) between ≡ Some (Some above) → parent ≤ above
nested-by row rest first nested node parent between above is after before up =
    Nested-at 0 (row ∷ rest) node parent between above (λ above own. cc, nested) is (omega (arith, after)) before up

parents-by : (row : Row) (rest : List Row) → row.parent ≡ None → Below 1 rest
    → (node parent : ℕ) → parent_of (row ∷ rest) node ≡ Some (Some parent) → parent < node
parents-by row rest first below zero parent is = cc
parents-by row rest first below (suc node) parent is =
    let before : parent < 1 + node = Below-at 1 rest node parent below is in omega (arith, before)

roots-by : (row : Row) (rest : List Row) → Below 1 rest → (node : ℕ) → parent_of (row ∷ rest) node ≡ Some None → node ≡ 0
roots-by row rest below zero is = refl
roots-by row rest below (suc node) is = absurd (Below-root 1 rest node below is)

children-by : (rows : List Row) → Ordered 0 (0 + length rows) rows
    → (node index child : ℕ) → child_of rows node index ≡ Some (Some child) → (node < child) × (child < length rows)
children-by rows ordered node index child is =
    let later : (0 + node < child) × (child < 0 + length rows) = Ordered-at 0 (0 + length rows) rows node index child ordered is in
    (omega (arith, later.0), omega (arith, later.1))

numbered-by : (rows : List Row) → Sound None 0 rows → IsNumbered rows
numbered-by [] sound = absurd sound
numbered-by (row ∷ rest) sound =
    let below : Below 1 rest = sound.1 in
    record {
      root = ap (λ (parent : Option ℕ). Some parent) sound.0;
      parents = parents-by row rest sound.0 below;
      roots = roots-by row rest below;
      children = children-by (row ∷ rest) sound.2;
      nested = nested-by row rest sound.0 sound.3.1;
    }

pub is_numbered : (root : Shape) → IsNumbered (rows_of root)
is_numbered root = numbered-by (rows_of root) (always_sound root None 0)

pub child-after : (rows : List Row) (node index : ℕ) (found : Option ℕ) → IsNumbered rows → child_of rows node index ≡ Some found
    → IfSome found (λ child. node < child)
child-after rows node index None numbers is = tt
child-after rows node index (Some child) numbers is = (numbers.children node index child is).0

pub child-within : (rows : List Row) (node index : ℕ) (found : Option ℕ) → IsNumbered rows → child_of rows node index ≡ Some found
    → IfSome found (λ child. child < length rows)
child-within rows node index None numbers is = tt
child-within rows node index (Some child) numbers is = (numbers.children node index child is).1
