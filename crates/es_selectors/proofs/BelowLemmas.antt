-- The nodes below a place, and their numbers.
use Rattle.std.proofs.Common.{◌≡◌, ℕ, zero, suc, ◌+◌, ◌-◌, ◌<◌, ◌≤◌, Bool, true, false, not, ◌||◌, List, [], ◌∷◌, ◌++◌, cond, length, length-append, map, nat_eq, nat_le, refl, sym, ap, subst, ◌∙◌, arith, append_assoc}
use Rattle.std.specs.Prelude.{Option, Some, None, flat_map, option_and_then, option_map, slice_get, unwrap_or}
use Rattle.std.specs.List.{list_any, range_with_len}
use Rattle.std.specs.Option.{option_map_or}
use Rattle.std.proofs.lemmas.Bool.Decides.{nat_tests}
use Rattle.std.proofs.lemmas.List.Folds.{list_any-append}
use Rattle.es_tree.specs.Numbering.{numbered, numbers_in, numbers_of_all, rows_in, rows_of, rows_of_all}
use Rattle.es_tree.specs.Rows.{Row, parent_of}
use Rattle.es_tree.specs.Shapes.{height, height_step, tallest, tallest_of_all}
use Rattle.es_tree.specs.declared.shape.Shape.{Shape, out-Shape}
use Rattle.es_tree.specs.declared.shape.Shape.TheFolds.{fold_out-Shape}
use Rattle.es_tree.specs.declared.shape.Shape.TheShapes.{former-Shape-fields, former-Shape-fields-at-2}
use Rattle.es_selectors.specs.declared.selector.Chain.{Chain}
use Rattle.es_selectors.specs.declared.selector.Atom.{Atom}
use Rattle.es_selectors.specs.declared.spot.Seat.{Seat}
use Rattle.es_selectors.specs.declared.spot.Side.TheVariants.{Front, Back}
use Rattle.es_selectors.specs.declared.spot.Spot.{Spot}
use Rattle.es_selectors.specs.Places as places
use Rattle.es_selectors.specs.Matches.{chains_match}
use Rattle.es_selectors.specs.Places.{Ascent, Place, Step, child_number, child_of_shape, child_place, child_places, number_at, number_from, place_at, place_below, place_from, place_sight, places_below, places_in, places_in_all, places_within, root_place}
use Rattle.es_selectors.specs.Selects.{below_of, count_in, earlier_spots, fields_in, find_index, front, index_from, is_at, is_at_in, is_some, numbers_below, previous_of, row_sight, seat, seat_among, sibling_at, siblings_below, spot_of, stands_below, stands_in_field}
use Rattle.es_selectors.proofs.AlikeLemmas.{BothOrNone, LookAlike, SameTests, chains_same}
use Rattle.es_selectors.proofs.SameLemmas.{At, Stands, above_same, child_both, child_is, count_is, earlier_same, here_of, in_field_same, kind_is, low_of, at_same, parent_both, previous_both, up_step, up_top, value_is}
use Rattle.es_selectors.proofs.StandsLemmas.{ChildOrNone, Covers, Ends, Here, child_here, numbered_is, own_row, slice_past, slice_within}

abbrev heights_in : List (Option Shape) → List (Option ℕ)
heights_in = former-Shape-fields-at-2.map Shape ℕ height

abbrev heights : List (List (Option Shape)) → List (List (Option ℕ))
heights = former-Shape-fields.map Shape ℕ height

height_out : (shape : Shape) → height shape ≡ 1 + tallest_of_all (heights (out-Shape shape).fields)
height_out = fold_out-Shape ℕ height_step

map-both : {A B : Type 0} (f : A → B) (xs ys : List A) → map f (xs ++ ys) ≡ map f xs ++ map f ys
map-both f [] ys = refl
map-both f (x ∷ xs) ys = ap (λ zs. f x ∷ zs) (map-both f xs ys)

range-both : (a m n : ℕ) → range_with_len a (m + n) ≡ range_with_len a m ++ range_with_len (a + m) n
range-both a zero n = let e : zero + n ≡ n = omega arith in let f : a ≡ a + zero = omega arith in ap (range_with_len a) e ∙ ap (λ b. range_with_len b n) f
range-both a (suc m) n =
    let e : suc m + n ≡ suc (m + n) = omega arith in
    let f : (a + 1) + m ≡ a + suc m = omega arith in
    ap (range_with_len a) e ∙ ap (λ xs. a ∷ xs) (range-both (a + 1) m n ∙ ap (λ b. range_with_len (a + 1) m ++ range_with_len b n) f)

module _ (rows : List Row) (top : ℕ) (one : Place → Bool) (other : Spot → Bool)
    (same : (shape : Shape) (ascent : Ascent) (ascents : List Ascent) (node : ℕ) → Stands rows top shape (ascent ∷ ascents) node →
    one (record { node = shape; ascents = ascent ∷ ascents }) ≡ other (spot_of top node)) where
  abbrev AllSame : ℕ → Type 0
  AllSame levels = (shape : Shape) (ascents : List Ascent) (node : ℕ) → Stands rows top shape ascents node → height shape ≤ levels →
      list_any one (places_within levels (record { node = shape; ascents = ascents }))
      ≡ list_any other (map (spot_of top) (range_with_len (node + 1) (length (rows_of_all numbered node (node + 1) (out-Shape shape).fields))))

  module _ (levels : ℕ) (further : AllSame levels) (shape : Shape) (ascents : List Ascent) (node : ℕ) (s : Stands rows top shape ascents node) where
    abbrev mother : Place
    mother = record { node = shape; ascents = ascents }

    abbrev down : Place → List Place
    down child = child ∷ places_within levels child

    step_at : ℕ → ℕ → Step
    step_at field index = record { field = field; index = index }

    stands_at : (field index next : ℕ) (child : Shape) → child_of_shape shape (record { field = field; index = index }) ≡ Some child →
        child_number shape node (record { field = field; index = index }) ≡ Some next →
        Stands rows top child (record { parent = shape; step = record { field = field; index = index } } ∷ ascents) next
    stands_at field index next child is number =
        let here = here_of rows top shape ascents node s in
        let both = child_here rows shape here.0 node here.1 (record { field = field; index = index }) in
        (node, s, is, number, subst (λ u. ChildOrNone rows node (Some child) u) number (subst (λ o. ChildOrNone rows node o (child_number shape node (record { field = field; index = index }))) is both))

    child_same : (field index next : ℕ) (child : Shape) → child_of_shape shape (record { field = field; index = index }) ≡ Some child →
        child_number shape node (record { field = field; index = index }) ≡ Some next → height child ≤ levels →
        list_any one (down (place_below mother (record { field = field; index = index }) child))
        ≡ list_any other (map (spot_of top) (range_with_len next (length (numbered child (Some node) next))))
    child_same field index next child is number low =
        let stands = stands_at field index next child is number in
        let whole = same child (record { parent = shape; step = record { field = field; index = index } }) ascents next stands in
        let rest = further child (record { parent = shape; step = record { field = field; index = index } } ∷ ascents) next stands low in
        (λ i. whole i || rest i)
        ∙ sym (ap (λ r. list_any other (map (spot_of top) (range_with_len next (length r)))) (numbered_is child (Some node) next))

    field_same : (field index next : ℕ) (list : List (Option Shape)) →
        ((i : ℕ) → unwrap_or (slice_get list i) None ≡ child_of_shape shape (record { field = field; index = index + i })) →
        ((i : ℕ) → unwrap_or (slice_get (numbers_in numbered node next list) i) None ≡ child_number shape node (record { field = field; index = index + i })) →
        tallest (heights_in list) ≤ levels →
        list_any one (flat_map down (places_in mother field index list))
        ≡ list_any other (map (spot_of top) (range_with_len next (length (rows_in numbered node next list))))
    field_same field index next [] children numbers low = refl
    field_same field index next (None ∷ rest) children numbers low =
        field_same field (index + 1) next rest
        (λ i. children (suc i) ∙ (let e : index + suc i ≡ (index + 1) + i = omega arith in ap (λ j. child_of_shape shape (record { field = field; index = j })) e))
        (λ i. numbers (suc i) ∙ (let e : index + suc i ≡ (index + 1) + i = omega arith in ap (λ j. child_number shape node (record { field = field; index = j })) e))
        low
    field_same field index next (Some child ∷ rest) children numbers low =
        let own = numbered child (Some node) next in
        let tail = rows_in numbered node (next + length own) rest in
        let zero_is : index + 0 ≡ index = omega arith in
        let is : child_of_shape shape (record { field = field; index = index }) ≡ Some child =
        ap (λ j. child_of_shape shape (record { field = field; index = j })) (sym zero_is) ∙ sym (children 0) in
        let number : child_number shape node (record { field = field; index = index }) ≡ Some next =
        ap (λ j. child_number shape node (record { field = field; index = j })) (sym zero_is) ∙ sym (numbers 0) in
        let first = child_same field index next child is number (omega arith) in
        let more = field_same field (index + 1) (next + length own) rest
        (λ i. children (suc i) ∙ (let e : index + suc i ≡ (index + 1) + i = omega arith in ap (λ j. child_of_shape shape (record { field = field; index = j })) e))
        (λ i. numbers (suc i) ∙ (let e : index + suc i ≡ (index + 1) + i = omega arith in ap (λ j. child_number shape node (record { field = field; index = j })) e))
        (omega arith) in
        list_any-append one (down (place_below mother (record { field = field; index = index }) child)) (flat_map down (places_in mother field (index + 1) rest))
        ∙ (λ i. first i || more i)
        ∙ sym (ap (λ n. list_any other (map (spot_of top) (range_with_len next n))) (length-append own tail)
        ∙ ap (λ xs. list_any other (map (spot_of top) xs)) (range-both next (length own) (length tail))
        ∙ ap (list_any other) (map-both (spot_of top) (range_with_len next (length own)) (range_with_len (next + length own) (length tail)))
        ∙ list_any-append other (map (spot_of top) (range_with_len next (length own))) (map (spot_of top) (range_with_len (next + length own) (length tail))))

    fields_same : (field next : ℕ) (fields : List (List (Option Shape))) →
        ((f i : ℕ) → unwrap_or (slice_get (unwrap_or (slice_get fields f) []) i) None ≡ child_of_shape shape (record { field = field + f; index = i })) →
        ((f i : ℕ) → unwrap_or (slice_get (unwrap_or (slice_get (numbers_of_all numbered node next fields) f) []) i) None ≡ child_number shape node (record { field = field + f; index = i })) →
        tallest_of_all (heights fields) ≤ levels →
        list_any one (flat_map down (places_in_all mother field fields))
        ≡ list_any other (map (spot_of top) (range_with_len next (length (rows_of_all numbered node next fields))))
    fields_same field next [] children numbers low = refl
    fields_same field next (list ∷ rest) children numbers low =
        let own = rows_in numbered node next list in
        let tail = rows_of_all numbered node (next + length own) rest in
        let zero_is : field + 0 ≡ field = omega arith in
        let first = field_same field 0 next list
        (λ i. children 0 i ∙ (let e : i ≡ 0 + i = omega arith in ap (λ f. child_of_shape shape (record { field = f; index = i })) zero_is ∙ ap (λ j. child_of_shape shape (record { field = field; index = j })) e))
        (λ i. numbers 0 i ∙ (let e : i ≡ 0 + i = omega arith in ap (λ f. child_number shape node (record { field = f; index = i })) zero_is ∙ ap (λ j. child_number shape node (record { field = field; index = j })) e))
        (omega arith) in
        let more = fields_same (field + 1) (next + length own) rest
        (λ f i. children (suc f) i ∙ (let e : field + suc f ≡ (field + 1) + f = omega arith in ap (λ g. child_of_shape shape (record { field = g; index = i })) e))
        (λ f i. numbers (suc f) i ∙ (let e : field + suc f ≡ (field + 1) + f = omega arith in ap (λ g. child_number shape node (record { field = g; index = i })) e))
        (omega arith) in
        ap (list_any one) (flat-both down (places_in mother field 0 list) (places_in_all mother (field + 1) rest))
        ∙ list_any-append one (flat_map down (places_in mother field 0 list)) (flat_map down (places_in_all mother (field + 1) rest))
        ∙ (λ i. first i || more i)
        ∙ sym (ap (λ n. list_any other (map (spot_of top) (range_with_len next n))) (length-append own tail)
        ∙ ap (λ xs. list_any other (map (spot_of top) xs)) (range-both next (length own) (length tail))
        ∙ ap (list_any other) (map-both (spot_of top) (range_with_len next (length own)) (range_with_len (next + length own) (length tail)))
        ∙ list_any-append other (map (spot_of top) (range_with_len next (length own))) (map (spot_of top) (range_with_len (next + length own) (length tail))))
      where
        flat-both : {A B : Type 0} (f : A → List B) (xs ys : List A) → flat_map f (xs ++ ys) ≡ flat_map f xs ++ flat_map f ys
        flat-both f [] ys = refl
        flat-both f (x ∷ xs) ys = ap (λ zs. f x ++ zs) (flat-both f xs ys) ∙ sym (append_assoc (f x) (flat_map f xs) (flat_map f ys))

  all_same : (levels : ℕ) → AllSame levels
  all_same zero shape ascents node s low = let tall = height_out shape in absurd (omega arith)
  all_same (suc levels) shape ascents node s low =
      let tall = height_out shape in
      fields_same levels (all_same levels) shape ascents node s 0 (node + 1) (out-Shape shape).fields
      (λ f i. let e : f ≡ 0 + f = omega arith in ap (λ g. child_of_shape shape (record { field = g; index = i })) e)
      (λ f i. let e : f ≡ 0 + f = omega arith in ap (λ g. child_number shape node (record { field = g; index = i })) e)
      (omega arith)

-- the numbers that pass, up to the first that doesn't
front_is : (passes : ℕ → Bool) (a n m : ℕ) → m ≤ n → list_any (λ k. not (passes k)) (range_with_len a m) ≡ false → (m < n → passes (a + m) ≡ false) →
    front passes (range_with_len a n) ≡ range_with_len a m
front_is passes a zero zero h pass stops = refl
front_is passes a (suc n) zero h pass stops =
    let e : a + 0 ≡ a = omega arith in
    ap (λ b. cond b (a ∷ front passes (range_with_len (a + 1) n)) []) (ap passes (sym e) ∙ stops (omega arith))
front_is passes a zero (suc m) h pass stops = absurd (omega arith)
front_is passes a (suc n) (suc m) h pass stops =
    let parts = or_parts (not (passes a)) (list_any (λ k. not (passes k)) (range_with_len (a + 1) m)) pass in
    let e : a + suc m ≡ (a + 1) + m = omega arith in
    ap (λ b. cond b (a ∷ front passes (range_with_len (a + 1) n)) []) (not_false (passes a) parts.0)
    ∙ ap (λ xs. a ∷ xs) (front_is passes (a + 1) n m (omega arith) parts.1 (λ less. ap passes (sym e) ∙ stops (omega arith)))
  where
    or_parts : (b c : Bool) → (b || c) ≡ false → (b ≡ false) × (c ≡ false)
    or_parts true c e = cc
    or_parts false c e = (refl, e)

    not_false : (b : Bool) → not b ≡ false → b ≡ true
    not_false true e = refl
    not_false false e = cc

none_of : {A : Type 0} (xs : List A) → list_any (λ (x : A). false) xs ≡ false
none_of [] = refl
none_of (x ∷ xs) = none_of xs

any-map : {A B : Type 0} (test : B → Bool) (f : A → B) (xs : List A) → list_any test (map f xs) ≡ list_any (λ x. test (f x)) xs
any-map test f [] = refl
any-map test f (x ∷ xs) = ap (λ b. test (f x) || b) (any-map test f xs)

some_at : {A : Type 0} (xs : List A) (k : ℕ) → k < length xs → (x : A) × (slice_get xs k ≡ Some x)
some_at [] k h = absurd (omega arith)
some_at (x ∷ xs) zero h = (x, refl)
some_at (x ∷ xs) (suc k) h = some_at xs k (omega arith)

covers_within : (rows : List Row) (at : ℕ) (segment : List Row) (n : ℕ) → length segment ≡ suc n → Covers rows at segment → at + length segment ≤ length rows
covers_within rows at segment n long covers =
    let last = some_at segment n (omega arith) in
    let within = slice_within rows (at + n) last.0 (covers n (omega arith) ∙ last.1) in
    omega arith

le_false : (a b : ℕ) → b < a → nat_le a b ≡ false
le_false a b h = grind (arith, nat_tests)

le_true : (a b : ℕ) → a ≤ b → nat_le a b ≡ true
le_true a b h = grind (arith, nat_tests)

module _ (rows : List Row) where
  child_stands_below : (top : ℕ) (shape : Shape) (ascent : Ascent) (ascents : List Ascent) (node : ℕ) → Stands rows top shape (ascent ∷ ascents) node → stands_below rows top node ≡ true
  child_stands_below top shape ascent ascents node s =
      let low = low_of rows top ascent.parent ascents s.0 s.1 in
      ap (λ (o : Option Row). option_map_or (nat_le top) (unwrap_or (option_map (λ (row : Row). row.parent) o) None) false) (own_row rows shape (Some s.0) node s.4)
      ∙ le_true top s.0 low

  end_stops : (top end : ℕ) → Ends rows top end → stands_below rows top end ≡ false
  end_stops top end ends = at (parent_of rows end) refl
    where
      at : (o : Option (Option ℕ)) → parent_of rows end ≡ o → option_map_or (nat_le top) (unwrap_or o None) false ≡ false
      at None is = refl
      at (Some None) is = refl
      at (Some (Some parent)) is = le_false top parent (ends parent is)

  numbers_are : (shape : Shape) (above : Option ℕ) (node : ℕ) → Here rows shape above node →
      numbers_below rows node ≡ range_with_len (node + 1) (length (rows_of_all numbered node (node + 1) (out-Shape shape).fields))
  numbers_are shape above node here =
      let below = rows_of_all numbered node (node + 1) (out-Shape shape).fields in
      let long : length (numbered shape above node) ≡ suc (length below) = ap (λ (r : List Row). length r) (numbered_is shape above node) in
      let within = covers_within rows node (numbered shape above node) (length below) long here.covers in
      let stands : Stands rows node shape [] node = (refl, (above, here)) in
      let all = all_same rows node (λ place. false) (λ spot. not (stands_below rows node spot.node))
      (λ child ascent ascents number s. ap not (sym (child_stands_below node child ascent ascents number s)))
      (height shape) shape [] node stands (omega arith) in
      let pass : list_any (λ k. not (stands_below rows node k)) (range_with_len (node + 1) (length below)) ≡ false =
      sym (any-map (λ (spot : Spot). not (stands_below rows node spot.node)) (spot_of node) (range_with_len (node + 1) (length below)))
      ∙ sym all ∙ none_of (places_within (height shape) (root_place shape)) in
      let end : node + length (numbered shape above node) ≡ (node + 1) + length below = omega arith in
      front_is (stands_below rows node) (node + 1) (length rows - (node + 1)) (length below) (omega arith) pass
      (λ less. ap (stands_below rows node) (sym end) ∙ end_stops node (node + length (numbered shape above node)) here.ends)

  below_same : (one : Place → Bool) (other : Spot → Bool) → SameTests (At rows) one other → (shape : Shape) (above : Option ℕ) (node : ℕ) → Here rows shape above node →
      list_any one (places_below shape) ≡ list_any other (below_of rows node)
  below_same one other same shape above node here =
      all_same rows node one other (λ child ascent ascents number s. same (record { node = child; ascents = ascent ∷ ascents }) (spot_of node number) s)
      (height shape) shape [] node (refl, (above, here)) (omega arith)
      ∙ ap (λ numbers. list_any other (map (spot_of node) numbers)) (sym (numbers_are shape above node here))

  -- a place and its number look alike
  nth_same : (number top : ℕ) (shape : Shape) (ascents : List Ascent) (node : ℕ) → Stands rows top shape ascents node →
      places.is_nth ascents number ≡ is_at (index_from Front number) rows (spot_of top node)
  nth_same number top shape [] node s =
      sym (ap (λ (o : Option ℕ). option_map_or (λ parent. list_any (is_at_in (index_from Front number) rows node parent) (fields_in rows parent)) o false) (up_top rows shape top node s))
  nth_same number top shape (ascent ∷ ascents) node s =
      at_same rows top shape ascent ascents node s Front number
      ∙ sym (ap (λ (o : Option ℕ). option_map_or (λ parent. list_any (is_at_in (index_from Front number) rows node parent) (fields_in rows parent)) o false) (up_step rows shape top node ascent ascents s))

  nth_last_same : (number top : ℕ) (shape : Shape) (ascents : List Ascent) (node : ℕ) → Stands rows top shape ascents node →
      places.is_nth_last ascents number ≡ is_at (index_from Back number) rows (spot_of top node)
  nth_last_same number top shape [] node s =
      sym (ap (λ (o : Option ℕ). option_map_or (λ parent. list_any (is_at_in (index_from Back number) rows node parent) (fields_in rows parent)) o false) (up_top rows shape top node s))
  nth_last_same number top shape (ascent ∷ ascents) node s =
      at_same rows top shape ascent ascents node s Back number
      ∙ sym (ap (λ (o : Option ℕ). option_map_or (λ parent. list_any (is_at_in (index_from Back number) rows node parent) (fields_in rows parent)) o false) (up_step rows shape top node ascent ascents s))

  in_field : (field top : ℕ) (shape : Shape) (ascents : List Ascent) (node : ℕ) → Stands rows top shape ascents node →
      places.stands_in_field ascents field ≡ stands_in_field rows (spot_of top node) field
  in_field field top shape [] node s =
      sym (ap (λ (o : Option ℕ). option_map_or (λ parent. is_some (find_index rows node parent field (unwrap_or (count_in rows parent field) 1))) o false) (up_top rows shape top node s))
  in_field field top shape (ascent ∷ ascents) node s =
      in_field_same rows top shape ascent ascents node s field
      ∙ sym (ap (λ (o : Option ℕ). option_map_or (λ parent. is_some (find_index rows node parent field (unwrap_or (count_in rows parent field) 1))) o false) (up_step rows shape top node ascent ascents s))

  no_seat : (top : ℕ) (shape : Shape) (node : ℕ) → Stands rows top shape [] node → seat rows (spot_of top node) ≡ None
  no_seat top shape node s = ap (option_and_then (λ parent. seat_among rows node parent (fields_in rows parent))) (up_top rows shape top node s)

  previous_is : (top : ℕ) (shape : Shape) (ascents : List Ascent) (node : ℕ) → Stands rows top shape ascents node →
      BothOrNone (At rows) (places.previous_place ascents) (option_map (spot_of top) (previous_of rows (spot_of top node)))
  previous_is top shape [] node s =
      subst (λ o. BothOrNone (At rows) None
      (option_map (spot_of top) (option_and_then (λ (place : Seat). cond (nat_eq place.index 0) None (sibling_at rows top place (place.index - 1))) o))) (sym (no_seat top shape node s)) tt
  previous_is top shape (ascent ∷ ascents) node s = previous_both rows top shape ascent ascents node s

  earlier_is : (one : Place → Bool) (other : Spot → Bool) → SameTests (At rows) one other → (top : ℕ) (shape : Shape) (ascents : List Ascent) (node : ℕ) → Stands rows top shape ascents node →
      list_any one (places.earlier_places ascents) ≡ list_any other (earlier_spots rows (spot_of top node))
  earlier_is one other same top shape [] node s =
      sym (ap (λ (o : Option Seat). list_any other (map (spot_of top) (option_map_or (λ (place : Seat). siblings_below rows top place place.index) o []))) (no_seat top shape node s))
  earlier_is one other same top shape (ascent ∷ ascents) node s = earlier_same rows top shape ascent ascents node s one other same

  look_alike : LookAlike place_sight (row_sight rows) (At rows)
  look_alike = record {
    kind = λ place spot s. sym (kind_is rows place spot s);
    value = λ place spot s. value_is rows place spot s;
    count = λ place spot s field. sym (count_is rows place spot s field);
    child = λ place spot s field index.
        subst (λ o. BothOrNone (At rows) (child_place place (record { field = field; index = index })) (option_map (spot_of spot.top) o))
        (sym (child_is rows place spot s field index)) (child_both rows place spot s (record { field = field; index = index }));
    parent = λ place spot s. parent_both rows place spot s;
    stands_in = λ place spot s field. in_field field spot.top place.node place.ascents spot.node s;
    is_nth = λ place spot s number. nth_same number spot.top place.node place.ascents spot.node s;
    is_nth_last = λ place spot s number. nth_last_same number spot.top place.node place.ascents spot.node s;
    previous = λ place spot s. previous_is spot.top place.node place.ascents spot.node s;
    earlier = λ place spot s one other same. earlier_is one other same spot.top place.node place.ascents spot.node s;
    above = λ place spot s one other same. above_same rows one other same spot.top place.node place.ascents spot.node s;
    below = λ place spot s one other same.
        let here = here_of rows spot.top place.node place.ascents spot.node s in
        below_same one other same place.node here.0 spot.node here.1;
  }

  -- a path leads to a place and to its number
  path_stands : (path : List Step) (place : Place) (top node : ℕ) → Stands rows top place.node place.ascents node → (end : Place) (number : ℕ) →
      place_from place path ≡ Some end → number_from place.node node path ≡ Some number → At rows end (spot_of top number)
  path_stands [] place top node s end number e f =
      let same : place ≡ end = cc in
      let as_number : node ≡ number = cc in
      subst (λ (p : Place). At rows p (spot_of top number)) same (subst (λ n. At rows place (spot_of top n)) as_number s)
  path_stands (step ∷ path) place top node s end number e f =
      let here = here_of rows top place.node place.ascents node s in
      at (child_of_shape place.node step) (child_number place.node node step) refl refl (child_here rows place.node here.0 node here.1 step) e f (path_stands path)
    where
      at : (o : Option Shape) (u : Option ℕ) → child_of_shape place.node step ≡ o → child_number place.node node step ≡ u → ChildOrNone rows node o u →
          option_and_then (λ child. place_from child path) (option_map (place_below place step) o) ≡ Some end →
          option_and_then (λ child. option_and_then (λ below. number_from child below path) u) o ≡ Some number →
          ((place : Place) (top node : ℕ) → Stands rows top place.node place.ascents node → (end : Place) (number : ℕ) →
          place_from place path ≡ Some end → number_from place.node node path ≡ Some number → At rows end (spot_of top number)) →
          At rows end (spot_of top number)
      at None u is as_number both e f further = cc
      at (Some child) None is as_number both e f further = cc
      at (Some child) (Some n) is as_number both e f further = further (place_below place step child) top n (node, s, is, as_number, both) end number e f

-- the rows of a tree stand from the first number on
root_stands : (root : Shape) → Stands (rows_of root) 0 root [] 0
root_stands root = (
  refl,
  (
    None,
    record {
      covers = λ k within. let e : 0 + k ≡ k = omega arith in ap (slice_get (rows_of root)) e;
      ends = λ parent e.
          let past : 0 + length (numbered root None 0) ≡ length (rows_of root) = omega arith in
          let none = slice_past (rows_of root) (0 + length (numbered root None 0)) (omega arith) in
          let nothing = ap (option_map (λ (r : Row). r.parent)) none in
          cc;
      climbs = λ parent e. cc;
    },
  ),
)

-- a selector matches a node of a tree where it matches its number among the rows
pub matched_alike : (root : Shape) (path : List Step) (place : Place) (rows : List Row) (node : ℕ) (chains : List (Chain Atom)) → rows ≡ rows_of root →
    place_at root path ≡ Some place → number_at root path ≡ Some node → chains_match place_sight chains place ≡ chains_match (row_sight rows) chains (spot_of 0 node)
matched_alike root path place rows node chains are is number =
    let stands = path_stands (rows_of root) path (root_place root) 0 0 (root_stands root) place node is number in
    chains_same place_sight (row_sight (rows_of root)) (At (rows_of root)) (look_alike (rows_of root)) chains place (spot_of 0 node) stands
    ∙ ap (λ r. chains_match (row_sight r) chains (spot_of 0 node)) (sym are)
