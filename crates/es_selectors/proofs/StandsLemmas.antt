-- Places in a plain tree, and the numbers under which they stand among its rows.
use Rattle.std.proofs.Common.{◌≡◌, ℕ, zero, suc, ◌+◌, ◌<◌, ◌≤◌, List, [], ◌∷◌, ◌++◌, length, length-append, refl, sym, ap, subst, ◌∙◌, arith, append-nil, append_assoc, add_assoc}
use Rattle.std.specs.Prelude.{Option, Some, None, option_map, slice_get, unwrap_or}
use Rattle.es_tree.specs.Numbering.{Numbering, node_rows, numbered, numbers_in, numbers_of_all, row_of, rows_in, rows_of_all}
use Rattle.es_tree.specs.Rows.{Row, parent_of}
use Rattle.es_tree.specs.declared.shape.Shape.{Shape, out-Shape}
use Rattle.es_tree.specs.declared.shape.Shape.TheFolds.{fold_out-Shape}
use Rattle.es_tree.specs.declared.shape.Shape.TheShapes.{former-Shape-fields, former-Shape-fields-at-2}
use Rattle.es_selectors.specs.Places.{Step, child_number, child_numbers, child_of_shape, field_of_shape}

-- one layer of the numbering
abbrev numberings_in : (Shape → Numbering) → List (Option Shape) → List (Option Numbering)
numberings_in = former-Shape-fields-at-2.map Shape Numbering

abbrev numberings : (Shape → Numbering) → List (List (Option Shape)) → List (List (Option Numbering))
numberings = former-Shape-fields.map Shape Numbering

module _ (f : Shape → Numbering) (parent : ℕ) where
  rows_in-layer : (next : ℕ) (field : List (Option Shape)) → rows_in (λ child. child) parent next (numberings_in f field) ≡ rows_in f parent next field
  rows_in-layer next [] = refl
  rows_in-layer next (None ∷ rest) = rows_in-layer next rest
  rows_in-layer next (Some child ∷ rest) =
      ap (λ rows. f child (Some parent) next ++ rows) (rows_in-layer (next + length (f child (Some parent) next)) rest)

  numbers_in-layer : (next : ℕ) (field : List (Option Shape)) → numbers_in (λ child. child) parent next (numberings_in f field) ≡ numbers_in f parent next field
  numbers_in-layer next [] = refl
  numbers_in-layer next (None ∷ rest) = ap (λ numbers. None ∷ numbers) (numbers_in-layer next rest)
  numbers_in-layer next (Some child ∷ rest) =
      ap (λ numbers. Some next ∷ numbers) (numbers_in-layer (next + length (f child (Some parent) next)) rest)

  rows_of_all-layer : (next : ℕ) (fields : List (List (Option Shape))) → rows_of_all (λ child. child) parent next (numberings f fields) ≡ rows_of_all f parent next fields
  rows_of_all-layer next [] = refl
  rows_of_all-layer next (field ∷ rest) =
      rw (rows_in-layer next field) (ap (λ rows. rows_in f parent next field ++ rows) (rows_of_all-layer (next + length (rows_in f parent next field)) rest))

  numbers_of_all-layer : (next : ℕ) (fields : List (List (Option Shape))) → numbers_of_all (λ child. child) parent next (numberings f fields) ≡ numbers_of_all f parent next fields
  numbers_of_all-layer next [] = refl
  numbers_of_all-layer next (field ∷ rest) =
      rw (rows_in-layer next field, numbers_in-layer next field) (ap (λ numbers. numbers_in f parent next field ∷ numbers) (numbers_of_all-layer (next + length (rows_in f parent next field)) rest))

pub numbered_is : (shape : Shape) (above : Option ℕ) (at : ℕ) →
    numbered shape above at ≡ row_of (out-Shape shape) above (child_numbers shape at) ∷ rows_of_all numbered at (at + 1) (out-Shape shape).fields
unfolding numbered
numbered_is shape above at =
    ap (λ numbering. numbering above at) (fold_out-Shape Numbering node_rows shape)
    ∙ rw (rows_of_all-layer numbered at (at + 1) (out-Shape shape).fields, numbers_of_all-layer numbered at (at + 1) (out-Shape shape).fields) refl

-- these rows stand among all from this number on
abbrev pub Covers : List Row → ℕ → List Row → Type 0
Covers rows at segment = (k : ℕ) → k < length segment → slice_get rows (at + k) ≡ slice_get segment k

slice-left : {A : Type 0} (xs ys : List A) (k : ℕ) → k < length xs → slice_get (xs ++ ys) k ≡ slice_get xs k
slice-left [] ys k h = absurd (omega arith)
slice-left (x ∷ xs) ys zero h = refl
slice-left (x ∷ xs) ys (suc k) h = slice-left xs ys k (omega arith)

slice-right : {A : Type 0} (xs ys : List A) (k : ℕ) → slice_get (xs ++ ys) (length xs + k) ≡ slice_get ys k
slice-right [] ys k = ap (slice_get ys) (omega arith)
slice-right (x ∷ xs) ys k =
    let e : length (x ∷ xs) + k ≡ suc (length xs + k) = omega arith in ap (slice_get ((x ∷ xs) ++ ys)) e ∙ slice-right xs ys k

covers_left : (rows : List Row) (at : ℕ) (xs ys : List Row) → Covers rows at (xs ++ ys) → Covers rows at xs
covers_left rows at xs ys covers k within = covers k (omega (arith, length-append xs ys)) ∙ slice-left xs ys k within

covers_right : (rows : List Row) (at : ℕ) (xs ys : List Row) → Covers rows at (xs ++ ys) → Covers rows (at + length xs) ys
covers_right rows at xs ys covers k within =
    ap (slice_get rows) (add_assoc at (length xs) k) ∙ covers (length xs + k) (omega (arith, length-append xs ys)) ∙ slice-right xs ys k

-- the node behind these rows, if there is one, stands below no node from this number on
abbrev pub Ends : List Row → ℕ → ℕ → Type 0
Ends rows at end = (parent : ℕ) → parent_of rows end ≡ Some (Some parent) → parent < at

-- the rows of a node and of all below it stand from this number on, and no other below it
pub record Here (rows : List Row) (shape : Shape) (above : Option ℕ) (node : ℕ) : Type 0 where
  pub covers : Covers rows node (numbered shape above node)
  pub ends : Ends rows node (node + length (numbered shape above node))
  pub climbs : (parent : ℕ) → above ≡ Some parent → parent < node

pub own_row : (rows : List Row) (shape : Shape) (above : Option ℕ) (node : ℕ) → Here rows shape above node →
    slice_get rows node ≡ Some (row_of (out-Shape shape) above (child_numbers shape node))
own_row rows shape above node here =
    let is = numbered_is shape above node in
    let long : 0 < length (numbered shape above node) = subst (λ r. 0 < length r) (sym is) (omega arith) in
    ap (slice_get rows) (omega arith) ∙ here.covers 0 long ∙ ap (λ r. slice_get r 0) is

-- the first row of some children is a child's
first_child : (parent next : ℕ) (field : List (Option Shape)) (row : Row) (more : List Row) → rows_in numbered parent next field ≡ row ∷ more → row.parent ≡ Some parent
first_child parent next [] row more e = cc
first_child parent next (None ∷ rest) row more e = first_child parent next rest row more e
first_child parent next (Some child ∷ rest) row more e =
    let is = numbered_is child (Some parent) next in
    let same : row_of (out-Shape child) (Some parent) (child_numbers child next) ∷ (rows_of_all numbered next (next + 1) (out-Shape child).fields ++ rows_in numbered parent (next + length (numbered child (Some parent) next)) rest) ≡ row ∷ more =
    ap (λ r. r ++ rows_in numbered parent (next + length (numbered child (Some parent) next)) rest) (sym is) ∙ e in
    let first : row_of (out-Shape child) (Some parent) (child_numbers child next) ≡ row = cc in
    ap (λ (r : Row). r.parent) (sym first)

first_of_all : (parent next : ℕ) (fields : List (List (Option Shape))) (row : Row) (more : List Row) → rows_of_all numbered parent next fields ≡ row ∷ more → row.parent ≡ Some parent
first_of_all parent next [] row more e = cc
first_of_all parent next (field ∷ rest) row more e = at (rows_in numbered parent next field) refl (first_of_all parent (next + length (rows_in numbered parent next field)) rest row more)
  where
    at : (rows : List Row) → rows_in numbered parent next field ≡ rows →
        (rows_of_all numbered parent (next + length (rows_in numbered parent next field)) rest ≡ row ∷ more → row.parent ≡ Some parent) → row.parent ≡ Some parent
    at [] is further = further (ap (λ r. r ++ rows_of_all numbered parent (next + length (rows_in numbered parent next field)) rest) (sym is) ∙ e)
    at (one ∷ rows) is further =
        let same : one ∷ (rows ++ rows_of_all numbered parent (next + length (rows_in numbered parent next field)) rest) ≡ row ∷ more =
        ap (λ r. r ++ rows_of_all numbered parent (next + length (rows_in numbered parent next field)) rest) (sym is) ∙ e in
        let first : one ≡ row = cc in
        ap (λ (r : Row). r.parent) (sym first) ∙ first_child parent next field one rows is

numbered_some : (shape : Shape) (above : Option ℕ) (at : ℕ) → 1 ≤ length (numbered shape above at)
numbered_some shape above at = subst (λ r. 1 ≤ length r) (sym (numbered_is shape above at)) (omega arith)

-- a row of a tree's nodes has a number below their count
pub slice_within : {A : Type 0} (xs : List A) (k : ℕ) (x : A) → slice_get xs k ≡ Some x → k < length xs
slice_within [] k x e = cc
slice_within (y ∷ xs) zero x e = omega arith
slice_within (y ∷ xs) (suc k) x e = let less = slice_within xs k x e in omega arith

pub slice_past : {A : Type 0} (xs : List A) (k : ℕ) → length xs ≤ k → slice_get xs k ≡ None
slice_past [] k h = refl
slice_past (y ∷ xs) zero h = absurd (omega arith)
slice_past (y ∷ xs) (suc k) h = slice_past xs k (omega arith)

module _ (rows : List Row) where
  -- a child with its number, or neither
  abbrev pub ChildOrNone : ℕ → Option Shape → Option ℕ → Type 0
  ChildOrNone node None None = Unit {0}
  ChildOrNone node None (Some number) = ⊥
  ChildOrNone node (Some child) None = ⊥
  ChildOrNone node (Some child) (Some number) = Here rows child (Some node) number

  first_here : (child : Shape) (node next : ℕ) (after : List Row) → node < next → Covers rows next (numbered child (Some node) next ++ after) →
      Ends rows node (next + length (numbered child (Some node) next ++ after)) → ((row : Row) (more : List Row) → after ≡ row ∷ more → row.parent ≡ Some node) →
      Here rows child (Some node) next
  first_here child node next after less covers ends heads = record {
    covers = covers_left rows next (numbered child (Some node) next) after covers;
    ends = at after refl;
    climbs = λ parent e. let same : node ≡ parent = cc in omega arith;
  }
    where
      at : (tail : List Row) → after ≡ tail → Ends rows next (next + length (numbered child (Some node) next))
      at [] is parent e =
          let same : next + length (numbered child (Some node) next ++ after) ≡ next + length (numbered child (Some node) next) =
          ap (λ t. next + length (numbered child (Some node) next ++ t)) is ∙ ap (λ r. next + length r) (append-nil (numbered child (Some node) next)) in
          let below = ends parent (ap (parent_of rows) same ∙ e) in omega arith
      at (row ∷ more) is parent e =
          let there = covers_right rows next (numbered child (Some node) next) after covers 0 (subst (λ t. 0 < length t) (sym is) (omega arith)) in
          let zero_more : next + length (numbered child (Some node) next) ≡ next + length (numbered child (Some node) next) + 0 = omega arith in
          let row_is : slice_get rows (next + length (numbered child (Some node) next)) ≡ Some row =
          ap (slice_get rows) zero_more ∙ there ∙ ap (λ t. slice_get t 0) is in
          let parent_is : Some (Some node) ≡ Some (Some parent) =
          ap Some (sym (heads row more is)) ∙ sym (ap (option_map (λ (r : Row). r.parent)) row_is) ∙ e in
          let same : node ≡ parent = cc in omega arith

  child_in_field : (node next : ℕ) (field : List (Option Shape)) (after : List Row) → node < next → Covers rows next (rows_in numbered node next field ++ after) →
      Ends rows node (next + length (rows_in numbered node next field ++ after)) → ((row : Row) (more : List Row) → after ≡ row ∷ more → row.parent ≡ Some node) →
      (index : ℕ) → ChildOrNone node (unwrap_or (slice_get field index) None) (unwrap_or (slice_get (numbers_in numbered node next field) index) None)
  child_in_field node next [] after less covers ends heads index = tt
  child_in_field node next (None ∷ rest) after less covers ends heads zero = tt
  child_in_field node next (None ∷ rest) after less covers ends heads (suc index) = child_in_field node next rest after less covers ends heads index
  child_in_field node next (Some child ∷ rest) after less covers ends heads zero =
      let own = numbered child (Some node) next in
      let tail = rows_in numbered node (next + length own) rest in
      let whole = append_assoc own tail after in
      first_here child node next (tail ++ after) less
      (subst (Covers rows next) whole covers)
      (subst (λ r. Ends rows node (next + length r)) whole ends)
      (heads_of tail refl)
    where
      heads_of : (tail : List Row) → rows_in numbered node (next + length (numbered child (Some node) next)) rest ≡ tail →
          (row : Row) (more : List Row) → tail ++ after ≡ row ∷ more → row.parent ≡ Some node
      heads_of [] is row more e = heads row more e
      heads_of (one ∷ tail) is row more e = let first : one ≡ row = cc in ap (λ (r : Row). r.parent) (sym first) ∙ first_child node _ rest one tail is
  child_in_field node next (Some child ∷ rest) after less covers ends heads (suc index) =
      let own = numbered child (Some node) next in
      let tail = rows_in numbered node (next + length own) rest in
      let whole = append_assoc own tail after in
      child_in_field node (next + length own) rest after (omega arith)
      (covers_right rows next own (tail ++ after) (subst (Covers rows next) whole covers))
      (subst (Ends rows node) (ap (λ r. next + length r) whole ∙ ap (λ n. next + n) (length-append own (tail ++ after)) ∙ sym (add_assoc next (length own) (length (tail ++ after)))) ends)
      heads index

  child_in_fields : (node next : ℕ) (fields : List (List (Option Shape))) → node < next → Covers rows next (rows_of_all numbered node next fields) →
      Ends rows node (next + length (rows_of_all numbered node next fields)) →
      (field index : ℕ) → ChildOrNone node (unwrap_or (slice_get (unwrap_or (slice_get fields field) []) index) None)
      (unwrap_or (slice_get (unwrap_or (slice_get (numbers_of_all numbered node next fields) field) []) index) None)
  child_in_fields node next [] less covers ends field index = tt
  child_in_fields node next (list ∷ rest) less covers ends zero index =
      child_in_field node next list (rows_of_all numbered node (next + length (rows_in numbered node next list)) rest) less covers ends
      (first_of_all node (next + length (rows_in numbered node next list)) rest) index
  child_in_fields node next (list ∷ rest) less covers ends (suc field) index =
      let own = rows_in numbered node next list in
      let tail = rows_of_all numbered node (next + length own) rest in
      child_in_fields node (next + length own) rest (omega arith) (covers_right rows next own tail covers)
      (subst (Ends rows node) (ap (λ n. next + n) (length-append own tail) ∙ sym (add_assoc next (length own) (length tail))) ends) field index

  -- each child of a node that stands among the rows does so, too
  pub child_here : (shape : Shape) (above : Option ℕ) (node : ℕ) → Here rows shape above node → (step : Step) →
      ChildOrNone node (child_of_shape shape step) (child_number shape node step)
  child_here shape above node here step =
      let is = numbered_is shape above node in
      let below = rows_of_all numbered node (node + 1) (out-Shape shape).fields in
      let covers = covers_right rows node (row_of (out-Shape shape) above (child_numbers shape node) ∷ []) below (subst (Covers rows node) is here.covers) in
      let long : node + length (numbered shape above node) ≡ (node + 1) + length below = ap (λ r. node + length r) is ∙ (omega arith) in
      child_in_fields node (node + 1) (out-Shape shape).fields (omega arith) covers (subst (Ends rows node) long here.ends) step.field step.index

-- numbers of children, from the bounds of their fields
low_in : (node next : ℕ) (field : List (Option Shape)) (index number : ℕ) → unwrap_or (slice_get (numbers_in numbered node next field) index) None ≡ Some number → next ≤ number
low_in node next [] index number e = cc
low_in node next (None ∷ rest) zero number e = cc
low_in node next (None ∷ rest) (suc index) number e = low_in node next rest index number e
low_in node next (Some child ∷ rest) zero number e = let same : next ≡ number = cc in omega arith
low_in node next (Some child ∷ rest) (suc index) number e = let low = low_in node (next + length (numbered child (Some node) next)) rest index number e in omega arith

high_in : (node next : ℕ) (field : List (Option Shape)) (index number : ℕ) → unwrap_or (slice_get (numbers_in numbered node next field) index) None ≡ Some number →
    number < next + length (rows_in numbered node next field)
high_in node next [] index number e = cc
high_in node next (None ∷ rest) zero number e = cc
high_in node next (None ∷ rest) (suc index) number e = high_in node next rest index number e
high_in node next (Some child ∷ rest) zero number e =
    let same : next ≡ number = cc in
    let own = numbered child (Some node) next in
    omega (arith, numbered_some child (Some node) next, length-append own (rows_in numbered node (next + length own) rest))
high_in node next (Some child ∷ rest) (suc index) number e =
    let own = numbered child (Some node) next in
    let high = high_in node (next + length own) rest index number e in
    omega (arith, length-append own (rows_in numbered node (next + length own) rest))

low_in_all : (node next : ℕ) (fields : List (List (Option Shape))) (field index number : ℕ) →
    unwrap_or (slice_get (unwrap_or (slice_get (numbers_of_all numbered node next fields) field) []) index) None ≡ Some number → next ≤ number
low_in_all node next [] field index number e = cc
low_in_all node next (list ∷ rest) zero index number e = low_in node next list index number e
low_in_all node next (list ∷ rest) (suc field) index number e = let low = low_in_all node (next + length (rows_in numbered node next list)) rest field index number e in omega arith

once_in : (node next : ℕ) (field : List (Option Shape)) (i j number : ℕ) → unwrap_or (slice_get (numbers_in numbered node next field) i) None ≡ Some number →
    unwrap_or (slice_get (numbers_in numbered node next field) j) None ≡ Some number → i ≡ j
once_in node next [] i j number e f = cc
once_in node next (None ∷ rest) zero j number e f = cc
once_in node next (None ∷ rest) (suc i) zero number e f = cc
once_in node next (None ∷ rest) (suc i) (suc j) number e f = ap suc (once_in node next rest i j number e f)
once_in node next (Some child ∷ rest) zero zero number e f = refl
once_in node next (Some child ∷ rest) zero (suc j) number e f =
    let same : next ≡ number = cc in
    absurd (omega (arith, numbered_some child (Some node) next, low_in node (next + length (numbered child (Some node) next)) rest j number f))
once_in node next (Some child ∷ rest) (suc i) zero number e f =
    let same : next ≡ number = cc in
    absurd (omega (arith, numbered_some child (Some node) next, low_in node (next + length (numbered child (Some node) next)) rest i number e))
once_in node next (Some child ∷ rest) (suc i) (suc j) number e f = ap suc (once_in node (next + length (numbered child (Some node) next)) rest i j number e f)

once_in_all : (node next : ℕ) (fields : List (List (Option Shape))) (f g i j number : ℕ) →
    unwrap_or (slice_get (unwrap_or (slice_get (numbers_of_all numbered node next fields) f) []) i) None ≡ Some number →
    unwrap_or (slice_get (unwrap_or (slice_get (numbers_of_all numbered node next fields) g) []) j) None ≡ Some number → (f ≡ g) × (i ≡ j)
once_in_all node next [] f g i j number a b = cc
once_in_all node next (list ∷ rest) zero zero i j number a b = (refl, once_in node next list i j number a b)
once_in_all node next (list ∷ rest) zero (suc g) i j number a b =
    absurd (omega (arith, high_in node next list i number a, low_in_all node (next + length (rows_in numbered node next list)) rest g j number b))
once_in_all node next (list ∷ rest) (suc f) zero i j number a b =
    absurd (omega (arith, high_in node next list j number b, low_in_all node (next + length (rows_in numbered node next list)) rest f i number a))
once_in_all node next (list ∷ rest) (suc f) (suc g) i j number a b =
    let same = once_in_all node (next + length (rows_in numbered node next list)) rest f g i j number a b in (ap suc same.0, same.1)

-- a number stands in one place of a node
pub one_step : (shape : Shape) (node : ℕ) (one other : Step) (number : ℕ) → child_number shape node one ≡ Some number → child_number shape node other ≡ Some number →
    (one.field ≡ other.field) × (one.index ≡ other.index)
one_step shape node one other number a b = once_in_all node (node + 1) (out-Shape shape).fields one.field other.field one.index other.index number a b

numbers_length : (node next : ℕ) (field : List (Option Shape)) → length (numbers_in numbered node next field) ≡ length field
numbers_length node next [] = refl
numbers_length node next (None ∷ rest) = ap suc (numbers_length node next rest)
numbers_length node next (Some child ∷ rest) = ap suc (numbers_length node (next + length (numbered child (Some node) next)) rest)

pub all_numbers_length : (node next : ℕ) (fields : List (List (Option Shape))) (field : ℕ) →
    length (unwrap_or (slice_get (numbers_of_all numbered node next fields) field) []) ≡ length (unwrap_or (slice_get fields field) [])
all_numbers_length node next [] field = refl
all_numbers_length node next (list ∷ rest) zero = numbers_length node next list
all_numbers_length node next (list ∷ rest) (suc field) = all_numbers_length node (next + length (rows_in numbered node next list)) rest field

-- a child stands at an index of its field
pub child_within : (shape : Shape) (step : Step) (child : Shape) → child_of_shape shape step ≡ Some child → step.index < length (field_of_shape shape step.field)
child_within shape step child e = at (field_of_shape shape step.field) step.index e
  where
    at : (list : List (Option Shape)) (index : ℕ) → unwrap_or (slice_get list index) None ≡ Some child → index < length list
    at [] index e = cc
    at (one ∷ list) zero e = omega arith
    at (one ∷ list) (suc index) e = let less = at list index e in omega arith
