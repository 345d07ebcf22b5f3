-- A place in a plain tree and its number among the rows look alike.
use Rattle.std.proofs.Common.{◌≡◌, ℕ, zero, suc, ◌+◌, ◌-◌, ◌<◌, ◌≤◌, Bool, true, false, ◌&&◌, ◌||◌, List, [], ◌∷◌, cond, length, map, nat_eq, nat_lt, refl, sym, ap, subst, ◌∙◌, arith}
use Rattle.std.specs.Prelude.{Option, Some, None, find, option_and_then, option_map, slice_get, unwrap_or, ◌==◌}
use Rattle.std.specs.List.{list_any, range_with_len}
use Rattle.std.specs.Option.{option_eq, option_map_or}
use Rattle.std.proofs.lemmas.Bool.Decides.{nat_tests}
use Rattle.es_tables.specs.declared.fields.Holds.{Holds}
use Rattle.es_tables.specs.declared.fields.Holds.TheVariants.{One, Optional, Many}
use Rattle.es_tables.specs.Nodes.{child_fields, held_by}
use Rattle.es_tree.specs.Numbering.{row_of}
use Rattle.es_tree.specs.Rows.{Row, child_in, list_length, no_child_field, row_places, value_among, value_of}
use Rattle.es_tree.specs.declared.shape.Shape.{Shape, out-Shape}
use Rattle.es_selectors.specs.declared.spot.Seat.{Seat}
use Rattle.es_selectors.specs.declared.spot.Side.{Side}
use Rattle.es_selectors.specs.declared.spot.Side.TheVariants.{Front, Back}
use Rattle.es_selectors.specs.declared.spot.Spot.{Spot}
use Rattle.es_selectors.specs.Places as places
use Rattle.es_selectors.specs.Places.{Ascent, Place, Step, child_number, child_numbers, child_of_shape, child_place, field_of_shape, is_list, is_many, kind_of_shape, place_above, place_below, place_sight, sibling, with_place}
use Rattle.es_selectors.specs.Selects.{above_of, child_at, cons_or_skip, count_in, earlier_of, fields_in, find_index, if_before, if_child_of, index_from, index_in, is_at_in, is_child_at, is_some, kind_in, parent_in, previous_of, seat, seat_among, seat_of, seat_or, sibling_at, siblings_below, spot_of, up, within}
use Rattle.es_selectors.proofs.AboveLemmas.{above_none, above_up}
use Rattle.es_selectors.proofs.AlikeLemmas.{BothOrNone, SameTests}
use Rattle.es_selectors.proofs.StandsLemmas.{ChildOrNone, Here, all_numbers_length, child_here, child_within, one_step, own_row, slice_within}

eq_true : (a b : ℕ) → a ≡ b → (a == b) ≡ true
eq_true a b e = grind (arith, nat_tests)

eq_false : (a b : ℕ) → (a ≡ b → ⊥) → (a == b) ≡ false
eq_false a b e = grind (arith, nat_tests)

eq_is : (a b : ℕ) → (a == b) ≡ true → a ≡ b
eq_is a b e = grind (arith, nat_tests)

lt_true : (a b : ℕ) → a < b → nat_lt a b ≡ true
lt_true a b h = grind (arith, nat_tests)

option_same : (o : Option ℕ) (i : ℕ) → option_eq nat_eq o (Some i) ≡ true → o ≡ Some i
option_same None i e = cc
option_same (Some j) i e = ap Some (eq_is j i e)

option_true : (o : Option ℕ) (i : ℕ) → o ≡ Some i → option_eq nat_eq o (Some i) ≡ true
option_true o i e = ap (λ (u : Option ℕ). option_eq nat_eq u (Some i)) e ∙ eq_true i i refl

same_bools : (a b : Bool) → (a ≡ true → b ≡ true) → (b ≡ true → a ≡ true) → a ≡ b
same_bools true b to from = sym (to refl)
same_bools false true to from = from refl
same_bools false false to from = refl

false_from : (b : Bool) → (b ≡ true → ⊥) → b ≡ false
false_from true never = absurd (never refl)
false_from false never = refl

or_false : (a : Bool) {b : Bool} → b ≡ false → (a || b) ≡ a
or_false true e = refl
or_false false e = e

-- tests of the numbers of a range
module _ (passes : ℕ → Bool) where
  find_only : (index : ℕ) → ((j : ℕ) → passes j ≡ true → j ≡ index) → passes index ≡ true → (a n : ℕ) → a ≤ index → index < a + n →
      find passes (range_with_len a n) ≡ Some index
  find_only index only here a zero low high = absurd (omega arith)
  find_only index only here a (suc n) low high =
      elim (passes a) as (λ b. passes a ≡ b → cond b (Some a) (find passes (range_with_len (a + 1) n)) ≡ Some index) [
        | true ↦ λ so. ap Some (only a so)
        | false ↦ λ no.
            let other : a ≡ index → ⊥ = λ same. let k = ap passes same in cc in
            find_only index only here (a + 1) n (omega (arith, other)) (omega arith)
      ] refl

  find_none : (a n : ℕ) → ((j : ℕ) → j < a + n → passes j ≡ false) → find passes (range_with_len a n) ≡ None
  find_none a zero none = refl
  find_none a (suc n) none =
      ap (λ b. cond b (Some a) (find passes (range_with_len (a + 1) n))) (none a (omega arith)) ∙ find_none (a + 1) n (λ j h. none j (omega arith))

  none_above : (field : ℕ) → ((j : ℕ) → passes j ≡ true → j ≡ field) → (a n : ℕ) → field < a → list_any passes (range_with_len a n) ≡ false
  none_above field only a zero h = refl
  none_above field only a (suc n) h =
      ap (λ t. t || list_any passes (range_with_len (a + 1) n)) (false_from (passes a) (λ so. let same = only a so in omega arith))
      ∙ none_above field only (a + 1) n (omega arith)

  any_only : (field : ℕ) → ((j : ℕ) → passes j ≡ true → j ≡ field) → (a n : ℕ) → a ≤ field → field < a + n → list_any passes (range_with_len a n) ≡ passes field
  any_only field only a zero low high = absurd (omega arith)
  any_only field only a (suc n) low high =
      elim (nat_eq a field) as (λ t. nat_eq a field ≡ t → (passes a || list_any passes (range_with_len (a + 1) n)) ≡ passes field) [
        | true ↦ λ is.
            let same : a ≡ field = eq_is a field is in
            or_false (passes a) (none_above field only (a + 1) n (omega arith)) ∙ ap passes same
        | false ↦ λ is.
            let other : a ≡ field → ⊥ = λ same. let k = eq_true a field same in cc in
            ap (λ t. t || list_any passes (range_with_len (a + 1) n)) (false_from (passes a) (λ so. other (only a so)))
            ∙ any_only field only (a + 1) n (omega (arith, other)) (omega arith)
      ] refl

  any_none : (a n : ℕ) → ((j : ℕ) → passes j ≡ false) → list_any passes (range_with_len a n) ≡ false
  any_none a zero none = refl
  any_none a (suc n) none = ap (λ t. t || list_any passes (range_with_len (a + 1) n)) (none a) ∙ any_none (a + 1) n none

module _ (rows : List Row) where
  abbrev pub Stands : ℕ → Shape → List Ascent → ℕ → Type 0
  Stands top shape [] node = (node ≡ top) × ((above : Option ℕ) × Here rows shape above node)
  Stands top shape (ascent ∷ ascents) node =
      (parent : ℕ) × Stands top ascent.parent ascents parent × (child_of_shape ascent.parent ascent.step ≡ Some shape)
      × (child_number ascent.parent parent ascent.step ≡ Some node) × Here rows shape (Some parent) node

  abbrev pub At : Place → Spot → Type 0
  At place spot = Stands spot.top place.node place.ascents spot.node

  pub here_of : (top : ℕ) (shape : Shape) (ascents : List Ascent) (node : ℕ) → Stands top shape ascents node → (above : Option ℕ) × Here rows shape above node
  here_of top shape [] node s = s.1
  here_of top shape (ascent ∷ ascents) node s = (Some s.0, s.4)

  pub low_of : (top : ℕ) (shape : Shape) (ascents : List Ascent) (node : ℕ) → Stands top shape ascents node → top ≤ node
  low_of top shape [] node s = let same = s.0 in omega arith
  low_of top shape (ascent ∷ ascents) node s =
      let low = low_of top ascent.parent ascents s.0 s.1 in
      let less = s.4.climbs s.0 refl in omega arith

  row_at : (place : Place) (spot : Spot) → At place spot → (above : Option ℕ) × (slice_get rows spot.node ≡ Some (row_of (out-Shape place.node) above (child_numbers place.node spot.node)))
  row_at place spot s =
      let here = here_of spot.top place.node place.ascents spot.node s in
      (here.0, own_row rows place.node here.0 spot.node here.1)

  pub kind_is : (place : Place) (spot : Spot) → At place spot → kind_in rows spot.node ≡ kind_of_shape place.node
  kind_is place spot s = ap (λ (o : Option Row). unwrap_or (option_map (λ (row : Row). row.kind) o) 0) (row_at place spot s).1

  pub value_is : (place : Place) (spot : Spot) → At place spot → (field : ℕ) →
      no_child_field (held_by (kind_of_shape place.node) field) (value_among (out-Shape place.node).attributes field) ≡ unwrap_or (value_of rows spot.node field) None
  value_is place spot s field =
      sym (ap (λ (o : Option Row). unwrap_or (option_map (λ (row : Row). no_child_field (held_by row.kind field) (value_among row.attributes field)) o) None) (row_at place spot s).1)

  counted : (held : Option Holds) (numbers : List (Option ℕ)) → list_length held numbers ≡ cond (is_many held) (Some (length numbers)) None
  counted None numbers = refl
  counted (Some One) numbers = refl
  counted (Some Optional) numbers = refl
  counted (Some Many) numbers = refl

  pub count_is : (place : Place) (spot : Spot) → At place spot → (field : ℕ) →
      count_in rows spot.node field ≡ cond (is_list place.node field) (Some (length (field_of_shape place.node field))) None
  count_is place spot s field =
      ap (λ (o : Option Row). unwrap_or (option_map (λ (row : Row). list_length (held_by row.kind field) (row_places row field)) o) None) (row_at place spot s).1
      ∙ counted (held_by (kind_of_shape place.node) field) (unwrap_or (slice_get (child_numbers place.node spot.node) field) [])
      ∙ ap (λ n. cond (is_list place.node field) (Some n) None) (all_numbers_length spot.node (spot.node + 1) (out-Shape place.node).fields field)

  -- the number of a child is one of a row
  within_is : (o : Option ℕ) → ((n : ℕ) → o ≡ Some n → n < length rows) → within rows o ≡ o
  within_is None all = refl
  within_is (Some n) all = ap (λ b. cond b (Some n) None) (lt_true n (length rows) (all n refl))

  number_within : (shape : Shape) (above : Option ℕ) (node : ℕ) → Here rows shape above node → (step : Step) (n : ℕ) → child_number shape node step ≡ Some n → n < length rows
  number_within shape above node here step n e =
      at (child_of_shape shape step) (child_number shape node step) (child_here rows shape above node here step) e
    where
      at : (o : Option Shape) (u : Option ℕ) → ChildOrNone rows node o u → u ≡ Some n → n < length rows
      at None None both e = cc
      at None (Some m) both e = absurd both
      at (Some child) None both e = absurd both
      at (Some child) (Some m) both e = let same : m ≡ n = cc in
          subst (λ k. k < length rows) same (slice_within rows m _ (own_row rows child (Some node) m both))

  pub child_is : (place : Place) (spot : Spot) → At place spot → (field index : ℕ) →
      child_at rows spot.node field index ≡ child_number place.node spot.node (record { field = field; index = index })
  child_is place spot s field index =
      let here = here_of spot.top place.node place.ascents spot.node s in
      ap (λ (o : Option Row). within rows (unwrap_or (option_map (λ (row : Row). child_in (row_places row field) index) o) None)) (row_at place spot s).1
      ∙ within_is (child_number place.node spot.node (record { field = field; index = index }))
      (λ n. number_within place.node here.0 spot.node here.1 (record { field = field; index = index }) n)

  pub child_both : (place : Place) (spot : Spot) → At place spot → (step : Step) →
      BothOrNone At (option_map (place_below place step) (child_of_shape place.node step)) (option_map (spot_of spot.top) (child_number place.node spot.node step))
  child_both place spot s step =
      let here = here_of spot.top place.node place.ascents spot.node s in
      at (child_of_shape place.node step) (child_number place.node spot.node step) refl refl (child_here rows place.node here.0 spot.node here.1 step)
    where
      at : (o : Option Shape) (u : Option ℕ) → child_of_shape place.node step ≡ o → child_number place.node spot.node step ≡ u → ChildOrNone rows spot.node o u →
          BothOrNone At (option_map (place_below place step) o) (option_map (spot_of spot.top) u)
      at None None is as_number both = tt
      at None (Some n) is as_number both = absurd both
      at (Some child) None is as_number both = absurd both
      at (Some child) (Some n) is as_number both = (spot.node, s, is, as_number, both)

  pub up_top : (shape : Shape) (top node : ℕ) → Stands top shape [] node → up rows (spot_of top node) ≡ None
  up_top shape top node s = ap (λ b. cond b None (if_before node (parent_in rows node))) (eq_true node top s.0)

  pub up_step : (shape : Shape) (top node : ℕ) (ascent : Ascent) (ascents : List Ascent) → (s : Stands top shape (ascent ∷ ascents) node) → up rows (spot_of top node) ≡ Some s.0
  up_step shape top node ascent ascents s =
      let low = low_of top ascent.parent ascents s.0 s.1 in
      let less = s.4.climbs s.0 refl in
      ap (λ b. cond b None (if_before node (parent_in rows node))) (eq_false node top (λ same. omega arith))
      ∙ ap (λ (o : Option Row). if_before node (unwrap_or (option_map (λ (row : Row). row.parent) o) None)) (own_row rows shape (Some s.0) node s.4)
      ∙ ap (λ b. cond b (Some s.0) None) (lt_true s.0 node less)

  pub parent_both : (place : Place) (spot : Spot) → At place spot → BothOrNone At (places.parent_place place.ascents) (option_map (spot_of spot.top) (up rows spot))
  parent_both place spot s = at place.node place.ascents spot.node s
    where
      at : (shape : Shape) (ascents : List Ascent) (node : ℕ) → Stands spot.top shape ascents node →
          BothOrNone At (places.parent_place ascents) (option_map (spot_of spot.top) (up rows (spot_of spot.top node)))
      at shape [] node s = subst (λ o. BothOrNone At None (option_map (spot_of spot.top) o)) (sym (up_top shape spot.top node s)) tt
      at shape (ascent ∷ ascents) node s =
          subst (λ o. BothOrNone At (Some (place_above ascent.parent ascents)) (option_map (spot_of spot.top) o)) (sym (up_step shape spot.top node ascent ascents s)) s.1

  -- where a node stands in its parent
  module _ (top : ℕ) (shape : Shape) (ascent : Ascent) (ascents : List Ascent) (node : ℕ) (s : Stands top shape (ascent ∷ ascents) node) where
    only_here : (field index : ℕ) → is_child_at rows node s.0 field index ≡ true → (field ≡ ascent.step.field) × (index ≡ ascent.step.index)
    only_here field index e =
        let at = option_same (child_at rows s.0 field index) node e in
        let number = sym (child_is (place_above ascent.parent ascents) (spot_of top s.0) s.1 field index) ∙ at in
        one_step ascent.parent s.0 (record { field = field; index = index }) ascent.step node number s.3

    here_true : is_child_at rows node s.0 ascent.step.field ascent.step.index ≡ true
    here_true = option_true (child_at rows s.0 ascent.step.field ascent.step.index) node
        (child_is (place_above ascent.parent ascents) (spot_of top s.0) s.1 ascent.step.field ascent.step.index ∙ s.3)

    index_low : ascent.step.index < length (field_of_shape ascent.parent ascent.step.field)
    index_low = child_within ascent.parent ascent.step shape s.2

    other_field : (field count : ℕ) → (field ≡ ascent.step.field → ⊥) → find_index rows node s.0 field count ≡ None
    other_field field count other =
        find_none (is_child_at rows node s.0 field) 0 count (λ j h. false_from (is_child_at rows node s.0 field j) (λ so. other (only_here field j so).0))

    own_field : (count : ℕ) → ascent.step.index < count → find_index rows node s.0 ascent.step.field count ≡ Some ascent.step.index
    own_field count high =
        find_only (is_child_at rows node s.0 ascent.step.field) ascent.step.index (λ j so. (only_here ascent.step.field j so).1) here_true 0 count (omega arith) (omega arith)

    beyond : (count : ℕ) → count ≤ ascent.step.index → find_index rows node s.0 ascent.step.field count ≡ None
    beyond count low =
        find_none (is_child_at rows node s.0 ascent.step.field) 0 count
        (λ j h. false_from (is_child_at rows node s.0 ascent.step.field j) (λ so. let same = (only_here ascent.step.field j so).1 in omega arith))

    mother_count : (field : ℕ) → count_in rows s.0 field ≡ cond (is_list ascent.parent field) (Some (length (field_of_shape ascent.parent field))) None
    mother_count = count_is (place_above ascent.parent ascents) (spot_of top s.0) s.1

    -- the field by name
    in_own_field : is_some (find_index rows node s.0 ascent.step.field (unwrap_or (count_in rows s.0 ascent.step.field) 1))
        ≡ (is_list ascent.parent ascent.step.field || nat_eq ascent.step.index 0)
    in_own_field =
        ap (λ (o : Option ℕ). is_some (find_index rows node s.0 ascent.step.field (unwrap_or o 1))) (mother_count ascent.step.field)
        ∙ elim (is_list ascent.parent ascent.step.field) as (λ b. is_some (find_index rows node s.0 ascent.step.field (unwrap_or (cond b (Some (length (field_of_shape ascent.parent ascent.step.field))) None) 1))
        ≡ (b || nat_eq ascent.step.index 0)) [
          | true ↦ ap is_some (own_field (length (field_of_shape ascent.parent ascent.step.field)) index_low)
          | false ↦ elim (nat_eq ascent.step.index 0) as (λ b. nat_eq ascent.step.index 0 ≡ b → is_some (find_index rows node s.0 ascent.step.field 1) ≡ b) [
            | true ↦ λ is. let zero_is = eq_is ascent.step.index 0 is in ap is_some (own_field 1 (omega arith))
            | false ↦ λ is.
                let other : ascent.step.index ≡ 0 → ⊥ = λ same. let k = eq_true ascent.step.index 0 same in cc in
                ap is_some (beyond 1 (omega (arith, other)))
          ] refl
        ]

    pub in_field_same : (field : ℕ) → (nat_eq ascent.step.field field && (is_list ascent.parent field || nat_eq ascent.step.index 0))
        ≡ is_some (find_index rows node s.0 field (unwrap_or (count_in rows s.0 field) 1))
    in_field_same field =
        elim (nat_eq ascent.step.field field) as (λ b. nat_eq ascent.step.field field ≡ b →
        (b && (is_list ascent.parent field || nat_eq ascent.step.index 0)) ≡ is_some (find_index rows node s.0 field (unwrap_or (count_in rows s.0 field) 1))) [
          | true ↦ λ is. subst (λ f. (is_list ascent.parent f || nat_eq ascent.step.index 0) ≡ is_some (find_index rows node s.0 f (unwrap_or (count_in rows s.0 f) 1)))
              (eq_is ascent.step.field field is) (sym in_own_field)
          | false ↦ λ is.
              let other : field ≡ ascent.step.field → ⊥ = λ same. let k = eq_true ascent.step.field field (sym same) in cc in
              sym (ap is_some (other_field field (unwrap_or (count_in rows s.0 field) 1) other))
        ] refl

    -- the n-th of a list
    is_index : (j : ℕ) → is_child_at rows node s.0 ascent.step.field j ≡ nat_eq j ascent.step.index
    is_index j = same_bools (is_child_at rows node s.0 ascent.step.field j) (nat_eq j ascent.step.index)
        (λ so. eq_true j ascent.step.index (only_here ascent.step.field j so).1)
        (λ so. subst (λ i. is_child_at rows node s.0 ascent.step.field i ≡ true) (sym (eq_is j ascent.step.index so)) here_true)

    at_in_other : (numbered_from : ℕ → Option ℕ) (field : ℕ) → is_at_in numbered_from rows node s.0 field ≡ true → field ≡ ascent.step.field
    at_in_other numbered_from field = at (count_in rows s.0 field)
      where
        from : (o : Option ℕ) → option_map_or (is_child_at rows node s.0 field) o false ≡ true → field ≡ ascent.step.field
        from None e = cc
        from (Some j) e = (only_here field j e).0

        at : (o : Option ℕ) → option_map_or (λ count. option_map_or (is_child_at rows node s.0 field) (numbered_from count) false) o false ≡ true → field ≡ ascent.step.field
        at None e = cc
        at (Some count) e = from (numbered_from count) e

    abbrev test_at : Side → ℕ → Bool
    test_at Front number = nat_eq (ascent.step.index + 1) number
    test_at Back number = nat_eq (ascent.step.index + number) (length (field_of_shape ascent.parent ascent.step.field))

    front_same : (index count number : ℕ) → index < count → option_map_or (λ j. nat_eq j index) (cond (nat_eq number 0 || nat_lt count number) None (Some (number - 1))) false ≡ nat_eq (index + 1) number
    front_same index count zero high = sym (eq_false (index + 1) 0 (λ e. omega arith))
    front_same index count (suc number) high =
        ap (λ b. option_map_or (λ j. nat_eq j index) (cond (b || nat_lt count (suc number)) None (Some (suc number - 1))) false) (eq_false (suc number) 0 (λ e. omega arith))
        ∙ elim (nat_lt count (suc number)) as (λ b. nat_lt count (suc number) ≡ b → option_map_or (λ j. nat_eq j index) (cond b None (Some (suc number - 1))) false ≡ nat_eq (index + 1) (suc number)) [
          | true ↦ λ is. sym (eq_false (index + 1) (suc number) (λ e. let less : count < suc number = grind (arith, nat_tests) in omega arith))
          | false ↦ λ is. same_bools (nat_eq (suc number - 1) index) (nat_eq (index + 1) (suc number))
              (λ so. let same = eq_is (suc number - 1) index so in eq_true (index + 1) (suc number) (omega arith))
              (λ so. let same = eq_is (index + 1) (suc number) so in eq_true (suc number - 1) index (omega arith))
        ] refl

    back_same : (index count number : ℕ) → index < count → option_map_or (λ j. nat_eq j index) (cond (nat_eq number 0 || nat_lt count number) None (Some (count - number))) false ≡ nat_eq (index + number) count
    back_same index count zero high = sym (eq_false (index + 0) count (λ e. omega arith))
    back_same index count (suc number) high =
        ap (λ b. option_map_or (λ j. nat_eq j index) (cond (b || nat_lt count (suc number)) None (Some (count - suc number))) false) (eq_false (suc number) 0 (λ e. omega arith))
        ∙ elim (nat_lt count (suc number)) as (λ b. nat_lt count (suc number) ≡ b → option_map_or (λ j. nat_eq j index) (cond b None (Some (count - suc number))) false ≡ nat_eq (index + suc number) count) [
          | true ↦ λ is. sym (eq_false (index + suc number) count (λ e. let less : count < suc number = grind (arith, nat_tests) in omega arith))
          | false ↦ λ is.
              let enough : suc number ≤ count = grind (arith, nat_tests) in
              same_bools (nat_eq (count - suc number) index) (nat_eq (index + suc number) count)
              (λ so. let same = eq_is (count - suc number) index so in eq_true (index + suc number) count (omega arith))
              (λ so. let same = eq_is (index + suc number) count so in eq_true (count - suc number) index (omega arith))
        ] refl

    index_same : (o : Option ℕ) → option_map_or (is_child_at rows node s.0 ascent.step.field) o false ≡ option_map_or (λ j. nat_eq j ascent.step.index) o false
    index_same None = refl
    index_same (Some j) = is_index j

    at_index : (side : Side) (number : ℕ) →
        option_map_or (is_child_at rows node s.0 ascent.step.field) (index_from side number (length (field_of_shape ascent.parent ascent.step.field))) false ≡ test_at side number
    at_index Front number = index_same _ ∙ front_same ascent.step.index (length (field_of_shape ascent.parent ascent.step.field)) number index_low
    at_index Back number = index_same _ ∙ back_same ascent.step.index (length (field_of_shape ascent.parent ascent.step.field)) number index_low

    at_in_own : (side : Side) (number : ℕ) → is_at_in (index_from side number) rows node s.0 ascent.step.field ≡ cond (is_list ascent.parent ascent.step.field) (test_at side number) false
    at_in_own side number =
        ap (λ (o : Option ℕ). option_map_or (λ count. option_map_or (is_child_at rows node s.0 ascent.step.field) (index_from side number count) false) o false) (mother_count ascent.step.field)
        ∙ elim (is_list ascent.parent ascent.step.field) as (λ b.
        option_map_or (λ count. option_map_or (is_child_at rows node s.0 ascent.step.field) (index_from side number count) false)
        (cond b (Some (length (field_of_shape ascent.parent ascent.step.field))) None) false ≡ cond b (test_at side number) false) [
          | true ↦ at_index side number
          | false ↦ refl
        ]

    list_low : is_list ascent.parent ascent.step.field ≡ true → ascent.step.field < length (child_fields (kind_of_shape ascent.parent))
    list_low = at (held_by (kind_of_shape ascent.parent) ascent.step.field) refl
      where
        at : (held : Option Holds) → held_by (kind_of_shape ascent.parent) ascent.step.field ≡ held → is_many held ≡ true → ascent.step.field < length (child_fields (kind_of_shape ascent.parent))
        at None is e = cc
        at (Some held) is e = slice_within (child_fields (kind_of_shape ascent.parent)) ascent.step.field held is

    mother_fields : fields_in rows s.0 ≡ range_with_len 0 (length (child_fields (kind_of_shape ascent.parent)))
    mother_fields = ap (λ k. range_with_len 0 (length (child_fields k))) (kind_is (place_above ascent.parent ascents) (spot_of top s.0) s.1)

    pub at_same : (side : Side) (number : ℕ) → cond (is_list ascent.parent ascent.step.field) (test_at side number) false ≡ list_any (is_at_in (index_from side number) rows node s.0) (fields_in rows s.0)
    at_same side number =
        elim (is_list ascent.parent ascent.step.field) as (λ b. is_list ascent.parent ascent.step.field ≡ b →
        cond b (test_at side number) false ≡ list_any (is_at_in (index_from side number) rows node s.0) (fields_in rows s.0)) [
          | true ↦ λ is. sym (
              ap (list_any (is_at_in (index_from side number) rows node s.0)) mother_fields
              ∙ any_only (is_at_in (index_from side number) rows node s.0) ascent.step.field (at_in_other (index_from side number)) 0
              (length (child_fields (kind_of_shape ascent.parent))) (omega arith) (let low = list_low is in omega arith)
              ∙ at_in_own side number ∙ ap (λ b. cond b (test_at side number) false) is)
          | false ↦ λ is. sym (
              ap (list_any (is_at_in (index_from side number) rows node s.0)) mother_fields
              ∙ any_none (is_at_in (index_from side number) rows node s.0) 0 (length (child_fields (kind_of_shape ascent.parent)))
              (λ j. false_from (is_at_in (index_from side number) rows node s.0 j) (λ so.
              let same = at_in_other (index_from side number) j so in
              let own = sym (at_in_own side number) ∙ subst (λ f. is_at_in (index_from side number) rows node s.0 f ≡ true) same so in
              let none = ap (λ b. cond b (test_at side number) false) is in cc)))
        ] refl

    -- the seat in a list
    own_index : is_list ascent.parent ascent.step.field ≡ true → index_in rows node s.0 ascent.step.field ≡ Some ascent.step.index
    own_index is =
        ap (option_and_then (find_index rows node s.0 ascent.step.field)) (mother_count ascent.step.field ∙ ap (λ b. cond b (Some (length (field_of_shape ascent.parent ascent.step.field))) None) is)
        ∙ own_field (length (field_of_shape ascent.parent ascent.step.field)) index_low

    no_index : is_list ascent.parent ascent.step.field ≡ false → index_in rows node s.0 ascent.step.field ≡ None
    no_index is =
        ap (option_and_then (find_index rows node s.0 ascent.step.field)) (mother_count ascent.step.field ∙ ap (λ b. cond b (Some (length (field_of_shape ascent.parent ascent.step.field))) None) is)

    other_index : (field : ℕ) → (field ≡ ascent.step.field → ⊥) → index_in rows node s.0 field ≡ None
    other_index field other = at (count_in rows s.0 field)
      where
        at : (o : Option ℕ) → option_and_then (find_index rows node s.0 field) o ≡ None
        at None = refl
        at (Some count) = other_field field count other

    seat_only : is_list ascent.parent ascent.step.field ≡ true → (a n : ℕ) → a ≤ ascent.step.field → ascent.step.field < a + n →
        seat_among rows node s.0 (range_with_len a n) ≡ Some (seat_of s.0 ascent.step.field ascent.step.index)
    seat_only is a zero low high = absurd (omega arith)
    seat_only is a (suc n) low high =
        elim (nat_eq a ascent.step.field) as (λ b. nat_eq a ascent.step.field ≡ b → seat_among rows node s.0 (range_with_len a (suc n)) ≡ Some (seat_of s.0 ascent.step.field ascent.step.index)) [
          | true ↦ λ so.
              let same = eq_is a ascent.step.field so in
              ap (seat_or (seat_among rows node s.0 (range_with_len (a + 1) n)) s.0 a) (ap (index_in rows node s.0) same ∙ own_index is)
              ∙ ap (λ f. Some (seat_of s.0 f ascent.step.index)) same
          | false ↦ λ so.
              let other : a ≡ ascent.step.field → ⊥ = λ same. let k = eq_true a ascent.step.field same in cc in
              ap (seat_or (seat_among rows node s.0 (range_with_len (a + 1) n)) s.0 a) (other_index a other)
              ∙ seat_only is (a + 1) n (omega (arith, other)) (omega arith)
        ] refl

    seat_none : is_list ascent.parent ascent.step.field ≡ false → (a n : ℕ) → seat_among rows node s.0 (range_with_len a n) ≡ None
    seat_none is a zero = refl
    seat_none is a (suc n) =
        elim (nat_eq a ascent.step.field) as (λ b. nat_eq a ascent.step.field ≡ b → seat_among rows node s.0 (range_with_len a (suc n)) ≡ None) [
          | true ↦ λ so.
              let same = eq_is a ascent.step.field so in
              ap (seat_or (seat_among rows node s.0 (range_with_len (a + 1) n)) s.0 a) (ap (index_in rows node s.0) same ∙ no_index is) ∙ seat_none is (a + 1) n
          | false ↦ λ so.
              let other : a ≡ ascent.step.field → ⊥ = λ same. let k = eq_true a ascent.step.field same in cc in
              ap (seat_or (seat_among rows node s.0 (range_with_len (a + 1) n)) s.0 a) (other_index a other) ∙ seat_none is (a + 1) n
        ] refl

    seat_is : seat rows (spot_of top node) ≡ cond (is_list ascent.parent ascent.step.field) (Some (seat_of s.0 ascent.step.field ascent.step.index)) None
    seat_is =
        ap (option_and_then (λ parent. seat_among rows node parent (fields_in rows parent))) (up_step shape top node ascent ascents s)
        ∙ ap (seat_among rows node s.0) mother_fields
        ∙ elim (is_list ascent.parent ascent.step.field) as (λ b. is_list ascent.parent ascent.step.field ≡ b →
        seat_among rows node s.0 (range_with_len 0 (length (child_fields (kind_of_shape ascent.parent)))) ≡ cond b (Some (seat_of s.0 ascent.step.field ascent.step.index)) None) [
          | true ↦ λ is. seat_only is 0 (length (child_fields (kind_of_shape ascent.parent))) (omega arith) (let low = list_low is in omega arith)
          | false ↦ λ is. seat_none is 0 (length (child_fields (kind_of_shape ascent.parent)))
        ] refl

    -- siblings
    sibling_both : (index : ℕ) → BothOrNone At (sibling ascent ascents index) (option_map (spot_of top) (sibling_at rows top (seat_of s.0 ascent.step.field ascent.step.index) index))
    sibling_both index =
        let mother = here_of top ascent.parent ascents s.0 s.1 in
        subst (λ o. BothOrNone At (sibling ascent ascents index) (option_map (spot_of top) (if_child_of rows top s.0 o)))
        (sym (child_is (place_above ascent.parent ascents) (spot_of top s.0) s.1 ascent.step.field index))
        (at (child_of_shape ascent.parent (record { field = ascent.step.field; index = index })) (child_number ascent.parent s.0 (record { field = ascent.step.field; index = index })) refl refl
        (child_here rows ascent.parent mother.0 s.0 mother.1 (record { field = ascent.step.field; index = index })))
      where
        at : (o : Option Shape) (u : Option ℕ) → child_of_shape ascent.parent (record { field = ascent.step.field; index = index }) ≡ o →
            child_number ascent.parent s.0 (record { field = ascent.step.field; index = index }) ≡ u → ChildOrNone rows s.0 o u →
            BothOrNone At (option_map (place_below (place_above ascent.parent ascents) (record { field = ascent.step.field; index = index })) o) (option_map (spot_of top) (if_child_of rows top s.0 u))
        at None None is as_number both = tt
        at None (Some n) is as_number both = absurd both
        at (Some child) None is as_number both = absurd both
        at (Some child) (Some n) is as_number both =
            let step : Step = record { field = ascent.step.field; index = index } in
            let further : Ascent = record { parent = ascent.parent; step = step } in
            let stands : Stands top child (further ∷ ascents) n = (s.0, s.1, is, as_number, both) in
            let there : up rows (spot_of top n) ≡ Some s.0 = up_step child top n further ascents stands in
            subst (λ b. BothOrNone At (Some (place_below (place_above ascent.parent ascents) step child)) (option_map (spot_of top) (cond b (Some n) None)))
            (sym (option_true (up rows (spot_of top n)) s.0 there)) stands

    pub previous_both : BothOrNone At (places.previous_place (ascent ∷ ascents)) (option_map (spot_of top) (previous_of rows (spot_of top node)))
    previous_both =
        subst (λ o. BothOrNone At (places.previous_place (ascent ∷ ascents))
        (option_map (spot_of top) (option_and_then (λ place. cond (nat_eq place.index 0) None (sibling_at rows top place (place.index - 1))) o))) (sym seat_is)
        (elim (is_list ascent.parent ascent.step.field) as (λ b.
        BothOrNone At (cond b (cond (nat_eq ascent.step.index 0) None (sibling ascent ascents (ascent.step.index - 1))) None)
        (option_map (spot_of top) (option_and_then (λ (place : Seat). cond (nat_eq place.index 0) None (sibling_at rows top place (place.index - 1))) (cond b (Some (seat_of s.0 ascent.step.field ascent.step.index)) None)))) [
          | true ↦ elim (nat_eq ascent.step.index 0) as (λ b.
              BothOrNone At (cond b None (sibling ascent ascents (ascent.step.index - 1)))
              (option_map (spot_of top) (cond b None (sibling_at rows top (seat_of s.0 ascent.step.field ascent.step.index) (ascent.step.index - 1))))) [
                | true ↦ tt
                | false ↦ sibling_both (ascent.step.index - 1)
              ]
          | false ↦ tt
        ])

    -- the siblings before
    module _ (one : Place → Bool) (other : Spot → Bool) (same : SameTests At one other) where
      with_both : (a : Option Place) (b : Option ℕ) → BothOrNone At a (option_map (spot_of top) b) → (xs : List Place) (ys : List ℕ) →
          list_any one xs ≡ list_any other (map (spot_of top) ys) → list_any one (with_place a xs) ≡ list_any other (map (spot_of top) (cons_or_skip b ys))
      with_both None None both xs ys e = e
      with_both None (Some n) both xs ys e = absurd both
      with_both (Some place) None both xs ys e = absurd both
      with_both (Some place) (Some n) both xs ys e = λ i. same place (spot_of top n) both i || e i

      siblings_same : (index : ℕ) → list_any one (places.siblings_below ascent ascents index)
          ≡ list_any other (map (spot_of top) (siblings_below rows top (seat_of s.0 ascent.step.field ascent.step.index) index))
      siblings_same zero = refl
      siblings_same (suc index) =
          with_both (sibling ascent ascents index) (sibling_at rows top (seat_of s.0 ascent.step.field ascent.step.index) index) (sibling_both index)
          (places.siblings_below ascent ascents index) (siblings_below rows top (seat_of s.0 ascent.step.field ascent.step.index) index) (siblings_same index)

      pub earlier_same : list_any one (places.earlier_places (ascent ∷ ascents)) ≡ list_any other (map (spot_of top) (earlier_of rows (spot_of top node)))
      earlier_same =
          elim (is_list ascent.parent ascent.step.field) as (λ b.
          list_any one (cond b (places.siblings_below ascent ascents ascent.step.index) [])
          ≡ list_any other (map (spot_of top) (option_map_or (λ (place : Seat). siblings_below rows top place place.index) (cond b (Some (seat_of s.0 ascent.step.field ascent.step.index)) None) []))) [
            | true ↦ siblings_same ascent.step.index
            | false ↦ refl
          ]
          ∙ sym (ap (λ (o : Option Seat). list_any other (map (spot_of top) (option_map_or (λ (place : Seat). siblings_below rows top place place.index) o []))) seat_is)

  -- the nodes above
  pub above_same : (one : Place → Bool) (other : Spot → Bool) → SameTests At one other → (top : ℕ) (shape : Shape) (ascents : List Ascent) (node : ℕ) → Stands top shape ascents node →
      list_any one (places.places_above ascents) ≡ list_any other (above_of rows (spot_of top node))
  above_same one other same top shape [] node s = sym (ap (list_any other) (above_none rows (spot_of top node) (up_top shape top node s)))
  above_same one other same top shape (ascent ∷ ascents) node s =
      (λ i. same (place_above ascent.parent ascents) (spot_of top s.0) s.1 i || above_same one other same top ascent.parent ascents s.0 s.1 i)
      ∙ sym (ap (list_any other) (above_up rows (spot_of top node) s.0 (up_step shape top node ascent ascents s)))
