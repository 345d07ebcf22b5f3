-- One layer of the numbering, and the row that gets its numbers once its children have rows.
use Rattle.std.proofs.Common.{◌≡◌, ◌∙◌, ◌+◌, ◌++◌, List, [], ◌∷◌, Option, Some, None, ℕ, length, sym, ap, refl, length-append, append_assoc, append-nil, add_assoc, add-zero}
use Rattle.es_tree.specs.Numbering.{Numbering, rows_in, numbers_in, rows_of_all, numbers_of_all, filled, all_filled, row_of, node_rows, numbered}
use Rattle.es_tree.specs.Rows.{Row, childless, with_children}
use Rattle.es_tree.specs.declared.shape.Shape.{Shape, out-Shape}
use Rattle.es_tree.specs.declared.shape.Shape.TheShapes.{former-Shape-fields, former-Shape-fields-at-2}
use Rattle.es_tree.specs.declared.shape.Shape.TheFolds.{fold_out-Shape}

-- the children's numberings in place of the children, of one field and of all
abbrev numberings_in : (Shape → Numbering) → List (Option Shape) → List (Option Numbering)
numberings_in = former-Shape-fields-at-2.map Shape Numbering

abbrev numberings : (Shape → Numbering) → List (List (Option Shape)) → List (List (Option Numbering))
numberings = former-Shape-fields.map Shape Numbering

module _ (f : Shape → Numbering) (parent : ℕ) where
  rows_in-layer : (next : ℕ) (field : List (Option Shape))
      → rows_in (λ child. child) parent next (numberings_in f field) ≡ rows_in f parent next field
  rows_in-layer next [] = refl
  rows_in-layer next (None ∷ rest) = rows_in-layer next rest
  rows_in-layer next (Some child ∷ rest) =
      ap (λ rows. f child (Some parent) next ++ rows) (rows_in-layer (next + length (f child (Some parent) next)) rest)

  numbers_in-layer : (next : ℕ) (field : List (Option Shape))
      → numbers_in (λ child. child) parent next (numberings_in f field) ≡ numbers_in f parent next field
  numbers_in-layer next [] = refl
  numbers_in-layer next (None ∷ rest) = ap (λ numbers. None ∷ numbers) (numbers_in-layer next rest)
  numbers_in-layer next (Some child ∷ rest) =
      ap (λ numbers. Some next ∷ numbers) (numbers_in-layer (next + length (f child (Some parent) next)) rest)

  rows_of_all-layer : (next : ℕ) (fields : List (List (Option Shape)))
      → rows_of_all (λ child. child) parent next (numberings f fields) ≡ rows_of_all f parent next fields
  rows_of_all-layer next [] = refl
  rows_of_all-layer next (field ∷ rest) =
      rw (rows_in-layer next field) (ap (λ rows. rows_in f parent next field ++ rows) (rows_of_all-layer (next + length (rows_in f parent next field)) rest))

  numbers_of_all-layer : (next : ℕ) (fields : List (List (Option Shape)))
      → numbers_of_all (λ child. child) parent next (numberings f fields) ≡ numbers_of_all f parent next fields
  numbers_of_all-layer next [] = refl
  numbers_of_all-layer next (field ∷ rest) =
      rw (rows_in-layer next field, numbers_in-layer next field) (ap (λ numbers. numbers_in f parent next field ∷ numbers) (numbers_of_all-layer (next + length (rows_in f parent next field)) rest))

pub numbered-layer : (shape : Shape) (parent : Option ℕ) (at : ℕ)
    → numbered shape parent at
    ≡ row_of (out-Shape shape) parent (numbers_of_all numbered at (at + 1) (out-Shape shape).fields)
    ∷ rows_of_all numbered at (at + 1) (out-Shape shape).fields
unfolding numbered
numbered-layer shape parent at =
    ap (λ numbering. numbering parent at) (fold_out-Shape Numbering node_rows shape)
    ∙ rw (rows_of_all-layer numbered at (at + 1) (out-Shape shape).fields, numbers_of_all-layer numbered at (at + 1) (out-Shape shape).fields) refl

-- the row that was put at the end without children gets them
set-pushed : (old rows : List Row) (row : Row) (numbers : List (List (Option ℕ))) (children : List ℕ)
    → with_children ((old ++ row ∷ []) ++ rows) (length old) numbers children
    ≡ old ++ record row { fields = numbers; children = children } ∷ rows
set-pushed [] rows row numbers children = refl
set-pushed (first ∷ old) rows row numbers children = ap (λ rest. first ∷ rest) (set-pushed old rows row numbers children)

pub number-done : (old pushed new done : List Row) (shape : Shape) (parent : Option ℕ) (at : ℕ) (numbers : List (List (Option ℕ))) (children : List ℕ)
    → at ≡ length old
    → pushed ≡ old ++ childless (out-Shape shape).kind (out-Shape shape).span parent (out-Shape shape).attributes ∷ []
    → new ≡ pushed ++ rows_of_all numbered at (length pushed) (out-Shape shape).fields
    → numbers ≡ numbers_of_all numbered at (length pushed) (out-Shape shape).fields
    → children ≡ all_filled numbers
    → done ≡ with_children new at numbers children
    → done ≡ old ++ numbered shape parent (length old)
number-done old pushed new done shape parent at numbers children first push rows named filling is =
    let row : Row = childless (out-Shape shape).kind (out-Shape shape).span parent (out-Shape shape).attributes in
    let long : length pushed ≡ at + 1 = ap length push ∙ length-append old _ ∙ ap (λ n. n + 1) (sym first) in
    let below : List Row = rows_of_all numbered at (at + 1) (out-Shape shape).fields in
    let whole : new ≡ (old ++ row ∷ []) ++ below =
    rows ∙ ap (λ n. pushed ++ rows_of_all numbered at n (out-Shape shape).fields) long ∙ ap (λ p. p ++ below) push in
    let numbers_are : numbers ≡ numbers_of_all numbered at (at + 1) (out-Shape shape).fields =
    named ∙ ap (λ n. numbers_of_all numbered at n (out-Shape shape).fields) long in
    is ∙ ap (λ n. with_children n at numbers children) whole
    ∙ ap (λ n. with_children ((old ++ row ∷ []) ++ below) n numbers children) first
    ∙ set-pushed old below row numbers children
    ∙ ap (λ c. old ++ record row { fields = numbers; children = c } ∷ below) filling
    ∙ ap (λ n. old ++ row_of (out-Shape shape) parent n ∷ below) numbers_are
    ∙ ap (λ r. old ++ r) (sym (numbered-layer shape parent at))
    ∙ ap (λ n. old ++ numbered shape parent n) first

-- the numbers without holes grow with the numbers
pub filled-push : (numbers : List (Option ℕ)) (number : ℕ) → filled (numbers ++ Some number ∷ []) ≡ filled numbers ++ number ∷ []
filled-push [] number = refl
filled-push (None ∷ rest) number = filled-push rest number
filled-push (Some n ∷ rest) number = ap (λ ns. n ∷ ns) (filled-push rest number)

pub filled-hole : (numbers : List (Option ℕ)) → filled (numbers ++ None ∷ []) ≡ filled numbers
filled-hole [] = refl
filled-hole (None ∷ rest) = filled-hole rest
filled-hole (Some n ∷ rest) = ap (λ ns. n ∷ ns) (filled-hole rest)

pub all_filled-push : (fields : List (List (Option ℕ))) (field : List (Option ℕ))
    → all_filled (fields ++ field ∷ []) ≡ all_filled fields ++ filled field
all_filled-push [] field = append-nil (filled field)
all_filled-push (first ∷ rest) field =
    ap (λ ns. filled first ++ ns) (all_filled-push rest field) ∙ sym (append_assoc (filled first) (all_filled rest) (filled field))

-- what the walk still gives, after the next child has its rows and its number
pub rows-child : (parent : ℕ) (rows own : List Row) (rest : List (Option Shape)) (more : List (List (Option Shape)))
    → let left = rows_in numbered parent (length (rows ++ own)) rest in
    let after = rows_in numbered parent (length rows + length own) rest in
    ((rows ++ own) ++ left) ++ rows_of_all numbered parent (length (rows ++ own) + length left) more
    ≡ (rows ++ (own ++ after)) ++ rows_of_all numbered parent (length rows + length (own ++ after)) more
rows-child parent rows own rest more =
    let after = rows_in numbered parent (length rows + length own) rest in
    rw (length-append rows own, length-append own after, append_assoc rows own after, add_assoc (length rows) (length own) (length after)) refl

pub numbers-child : (parent : ℕ) (rows own : List Row) (fields : List (List (Option ℕ))) (places : List (Option ℕ)) (number : ℕ) (rest : List (Option Shape)) (more : List (List (Option Shape)))
    → let left = rows_in numbered parent (length (rows ++ own)) rest in
    let after = rows_in numbered parent (length rows + length own) rest in
    fields ++ ((places ++ Some number ∷ []) ++ numbers_in numbered parent (length (rows ++ own)) rest)
    ∷ numbers_of_all numbered parent (length (rows ++ own) + length left) more
    ≡ fields ++ (places ++ Some number ∷ numbers_in numbered parent (length rows + length own) rest)
    ∷ numbers_of_all numbered parent (length rows + length (own ++ after)) more
numbers-child parent rows own fields places number rest more =
    let after = rows_in numbered parent (length rows + length own) rest in
    let next = numbers_in numbered parent (length rows + length own) rest in
    rw (length-append rows own, length-append own after, append_assoc places (Some number ∷ []) next, add_assoc (length rows) (length own) (length after)) refl

-- and after the last child of a field
pub rows-field : (parent : ℕ) (rows : List Row) (more : List (List (Option Shape)))
    → rows ++ rows_of_all numbered parent (length rows) more ≡ (rows ++ []) ++ rows_of_all numbered parent (length rows + 0) more
rows-field parent rows more = rw (append-nil rows, add-zero (length rows)) refl

pub numbers-field : (parent : ℕ) (rows : List Row) (fields : List (List (Option ℕ))) (places : List (Option ℕ)) (more : List (List (Option Shape)))
    → (fields ++ places ∷ []) ++ numbers_of_all numbered parent (length rows) more
    ≡ fields ++ (places ++ []) ∷ numbers_of_all numbered parent (length rows + 0) more
numbers-field parent rows fields places more =
    rw (append_assoc fields (places ∷ []) (numbers_of_all numbered parent (length rows) more), append-nil places, add-zero (length rows)) refl
