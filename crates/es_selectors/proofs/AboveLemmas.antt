-- The nodes above a node, among the rows of a tree.
use Rattle.std.proofs.Common.{◌≡◌, ℕ, zero, suc, ◌<◌, ◌≤◌, Bool, true, false, ◌&&◌, ◌||◌, List, [], ◌∷◌, ◌++◌, cond, map, nat_eq, nat_lt, refl, sym, ap, ◌∙◌, arith, append_assoc}
use Rattle.std.specs.Prelude.{Option, Some, None, option_map, option_and_then, ◌==◌, ◌-◌, if◌then◌else◌}
use Rattle.std.specs.List.{list_any}
use Rattle.std.specs.Option.{option_eq, option_map_or}
use Rattle.std.proofs.lemmas.Bool.Decides.{nat_tests}
use Rattle.es_tree.specs.Rows.{Row}
use Rattle.es_selectors.specs.declared.selector.Atom.{Atom}
use Rattle.es_selectors.specs.declared.selector.Link.{Link}
use Rattle.es_selectors.specs.declared.spot.Seat.{Seat}
use Rattle.es_selectors.specs.declared.spot.Spot.{Spot}
use Rattle.es_selectors.specs.Chains.{Nested, atom_in, compound_in, links_in}
use Rattle.es_selectors.specs.Matches.{holds_of, link_holds, reaches}
use Rattle.es_selectors.specs.Selects.{above_of, above_within, child_at, cons_or_skip, earlier_spots, fields_in, if_before, if_child_of, index_in, one_or_more, parent_in, previous_of, row_sight, seat, seat_among, seat_or, sibling_at, siblings_below, spot_of, up}
use Rattle.es_selectors.proofs.AtomLemmas.{fold-last}

some_same : {A : Type 0} {x y : A} → Some x ≡ Some y → x ≡ y
some_same e = cc

before_is : (node : ℕ) (o : Option ℕ) (parent : ℕ) → if_before node o ≡ Some parent → parent < node
before_is node None parent e = cc
before_is node (Some p) parent e =
    elim (nat_lt p node) as (λ b. nat_lt p node ≡ b → cond b (Some p) None ≡ Some parent → parent < node) [
      | true ↦ λ yes is. let same : p ≡ parent = cc in grind (arith, nat_tests)
      | false ↦ λ no is. cc
    ] refl e

pub up_before : (rows : List Row) (spot : Spot) (parent : ℕ) → up rows spot ≡ Some parent → parent < spot.node
up_before rows spot parent e =
    elim (spot.node == spot.top) as (λ b. cond b None (if_before spot.node (parent_in rows spot.node)) ≡ Some parent → parent < spot.node) [
      | true ↦ λ is. cc
      | false ↦ λ is. before_is spot.node (parent_in rows spot.node) parent is
    ] e

no_room : (rows : List Row) (most : ℕ) (spot : Spot) (o : Option ℕ) → up rows spot ≡ o → spot.node ≤ 0 →
    one_or_more [] (λ parent. spot_of spot.top parent ∷ above_within most rows (spot_of spot.top parent)) o ≡ []
no_room rows most spot None is low = refl
no_room rows most spot (Some parent) is low = let less = up_before rows spot parent is in absurd (omega arith)

enough_step : (rows : List Row) (one other : ℕ) (spot : Spot) → spot.node ≤ suc one → spot.node ≤ suc other →
    ((up_spot : Spot) → up_spot.node ≤ one → up_spot.node ≤ other → above_within one rows up_spot ≡ above_within other rows up_spot) →
    (o : Option ℕ) → up rows spot ≡ o →
    one_or_more [] (λ parent. spot_of spot.top parent ∷ above_within one rows (spot_of spot.top parent)) o
    ≡ one_or_more [] (λ parent. spot_of spot.top parent ∷ above_within other rows (spot_of spot.top parent)) o
enough_step rows one other spot a b further None is = refl
enough_step rows one other spot a b further (Some parent) is =
    let less = up_before rows spot parent is in
    ap (λ rest. spot_of spot.top parent ∷ rest) (further (spot_of spot.top parent) (omega arith) (omega arith))

-- more room makes no difference
enough : (rows : List Row) (one other : ℕ) (spot : Spot) → spot.node ≤ one → spot.node ≤ other → above_within one rows spot ≡ above_within other rows spot
enough rows zero zero spot a b = refl
enough rows zero (suc other) spot a b = sym (no_room rows other spot (up rows spot) refl a)
enough rows (suc one) zero spot a b = no_room rows one spot (up rows spot) refl b
enough rows (suc one) (suc other) spot a b = enough_step rows one other spot a b (enough rows one other) (up rows spot) refl

above_step : (rows : List Row) (most : ℕ) (spot : Spot) (o : Option ℕ) → up rows spot ≡ o →
    above_within (suc most) rows spot ≡ one_or_more [] (λ parent. spot_of spot.top parent ∷ above_within most rows (spot_of spot.top parent)) o
above_step rows most spot o e = ap (one_or_more [] (λ parent. spot_of spot.top parent ∷ above_within most rows (spot_of spot.top parent))) e

pub above_up : (rows : List Row) (spot : Spot) (parent : ℕ) → up rows spot ≡ Some parent →
    above_of rows spot ≡ spot_of spot.top parent ∷ above_of rows (spot_of spot.top parent)
above_up rows spot parent e =
    let less = up_before rows spot parent e in
    enough rows spot.node (suc spot.node) spot (omega arith) (omega arith)
    ∙ above_step rows spot.node spot (Some parent) e
    ∙ ap (λ rest. spot_of spot.top parent ∷ rest) (enough rows spot.node parent (spot_of spot.top parent) (omega arith) (omega arith))

pub above_none : (rows : List Row) (spot : Spot) → up rows spot ≡ None → above_of rows spot ≡ []
above_none rows spot e =
    enough rows spot.node (suc spot.node) spot (omega arith) (omega arith) ∙ above_step rows spot.node spot None e

-- the end of a list
behind_first : {A : Type 0} (front xs ys : List A) (x y : A) → x ∷ xs ≡ front ++ (y ∷ ys) → (more : List A) × (xs ≡ more ++ ys)
behind_first [] xs ys x y e = ([], cc)
behind_first (z ∷ front) xs ys x y e = let rest : xs ≡ front ++ (y ∷ ys) = cc in (front ++ y ∷ [], rest ∙ sym (append_assoc front (y ∷ []) ys))

or_false : (a b : Bool) → (a || b) ≡ false → (a ≡ false) × (b ≡ false)
or_false true b e = cc
or_false false b e = (refl, e)

any_end : {A : Type 0} (test : A → Bool) (front xs : List A) → list_any test (front ++ xs) ≡ false → list_any test xs ≡ false
any_end test [] xs e = e
any_end test (x ∷ front) xs e = any_end test front xs (or_false (test x) (list_any test (front ++ xs)) e).1

module _ (rows : List Row) where
  pub nested_itself : (spot : Spot) → Nested rows spot spot
  nested_itself spot = ([], refl)

  pub nested_same : (one other : Spot) → above_of rows one ≡ above_of rows other → Nested rows one other
  nested_same one other e = ([], sym e)

  pub nested_through : (one other third : Spot) → Nested rows one other → Nested rows other third → Nested rows one third
  nested_through one other third a b =
      (b.0 ++ a.0, b.1 ∙ ap (λ xs. b.0 ++ xs) a.1 ∙ sym (append_assoc b.0 a.0 (above_of rows one)))

  nested_up : (spot : Spot) (parent : ℕ) → up rows spot ≡ Some parent → Nested rows (spot_of spot.top parent) spot
  nested_up spot parent e = (spot_of spot.top parent ∷ [], above_up rows spot parent e)

  -- what is nested stays so one step up
  nested_parents : (one other : Spot) (p q : ℕ) → Nested rows one other → up rows one ≡ Some p → up rows other ≡ Some q →
      Nested rows (spot_of one.top p) (spot_of other.top q)
  nested_parents one other p q nested e f =
      behind_first nested.0 (above_of rows (spot_of other.top q)) (above_of rows (spot_of one.top p)) (spot_of other.top q) (spot_of one.top p)
      (sym (above_up rows other q f) ∙ nested.1 ∙ ap (λ xs. nested.0 ++ xs) (above_up rows one p e))

  -- a test that fails for all nodes that are nested in one
  module _ (test : Spot → Bool) where
    never_within : (most : ℕ) (spot : Spot) → spot.node ≤ most → ((other : Spot) → Nested rows other spot → test other ≡ false) →
        (o : Option ℕ) → up rows spot ≡ o → list_any test (one_or_more [] (λ parent. spot_of spot.top parent ∷ above_within most rows (spot_of spot.top parent)) o) ≡ false
    never_within most spot low never None is = refl
    never_within zero spot low never (Some parent) is = let less = up_before rows spot parent is in absurd (omega arith)
    never_within (suc most) spot low never (Some parent) is =
        let less = up_before rows spot parent is in
        let up_spot = spot_of spot.top parent in
        let first = never up_spot (nested_up spot parent is) in
        let rest = never_within most up_spot (omega arith) (λ other nested. never other (nested_through other up_spot spot nested (nested_up spot parent is))) (up rows up_spot) refl in
        ap (λ b. b || list_any test (above_within (suc most) rows up_spot)) first ∙ rest

    pub never_above : (spot : Spot) → ((other : Spot) → Nested rows other spot → test other ≡ false) → list_any test (above_of rows spot) ≡ false
    never_above spot never =
        ap (list_any test) (enough rows spot.node (suc spot.node) spot (omega arith) (omega arith))
        ∙ never_within spot.node spot (omega arith) never (up rows spot) refl

    pub never_nested_above : (spot other : Spot) → list_any test (above_of rows spot) ≡ false → Nested rows other spot → list_any test (above_of rows other) ≡ false
    never_nested_above spot other none nested = any_end test nested.0 (above_of rows other) (ap (list_any test) (sym nested.1) ∙ none)

    pub above_passed : (spot : Spot) (parent : ℕ) → up rows spot ≡ Some parent → test (spot_of spot.top parent) ≡ false →
        list_any test (above_of rows (spot_of spot.top parent)) ≡ list_any test (above_of rows spot)
    above_passed spot parent e fails =
        sym (ap (list_any test) (above_up rows spot parent e) ∙ ap (λ b. b || list_any test (above_of rows (spot_of spot.top parent))) fails)

    -- the parent of a nested node is nested in the parent
    pub never_parent : (spot other : Spot) (parent : ℕ) → up rows spot ≡ Some parent → Nested rows other spot →
        ((third : Spot) → Nested rows third (spot_of spot.top parent) → test third ≡ false) →
        holds_of test (option_map (spot_of other.top) (up rows other)) ≡ false
    never_parent spot other parent e nested never = at (up rows other) refl
      where
        at : (o : Option ℕ) → up rows other ≡ o → holds_of test (option_map (spot_of other.top) o) ≡ false
        at None is = refl
        at (Some p) is = never (spot_of other.top p) (nested_parents other spot p parent nested is e)

-- siblings have the same nodes above
sibling_up : (rows : List Row) (top parent number : ℕ) (o : Option ℕ) → if_child_of rows top parent o ≡ Some number → up rows (spot_of top number) ≡ Some parent
sibling_up rows top parent number None e = cc
sibling_up rows top parent number (Some n) e = at (up rows (spot_of top n)) refl e
  where
    at : (o : Option ℕ) → up rows (spot_of top n) ≡ o → cond (option_eq nat_eq o (Some parent)) (Some n) None ≡ Some number → up rows (spot_of top number) ≡ Some parent
    at None is e = cc
    at (Some p) is e =
        elim (nat_eq p parent) as (λ b. nat_eq p parent ≡ b → cond b (Some n) None ≡ Some number → up rows (spot_of top number) ≡ Some parent) [
          | true ↦ λ yes found. let same : p ≡ parent = grind (arith, nat_tests) in let n_is : n ≡ number = cc in
              ap (λ m. up rows (spot_of top m)) (sym n_is) ∙ is ∙ ap Some same
          | false ↦ λ no found. cc
        ] refl e

seat_first : (rows : List Row) (node parent field : ℕ) (fields : List ℕ) (place : Seat) → (seat_among rows node parent fields ≡ Some place → place.parent ≡ parent) →
    (o : Option ℕ) → seat_or (seat_among rows node parent fields) parent field o ≡ Some place → place.parent ≡ parent
seat_first rows node parent field fields place further None e = further e
seat_first rows node parent field fields place further (Some index) e = ap (λ (s : Seat). s.parent) (sym (some_same e))

seat_parent : (rows : List Row) (node parent : ℕ) (fields : List ℕ) (place : Seat) → seat_among rows node parent fields ≡ Some place → place.parent ≡ parent
seat_parent rows node parent [] place e = cc
seat_parent rows node parent (field ∷ fields) place e =
    seat_first rows node parent field fields place (seat_parent rows node parent fields place) (index_in rows node parent field) e

pub own_parent : (rows : List Row) (spot : Spot) (place : Seat) → seat rows spot ≡ Some place → up rows spot ≡ Some place.parent
own_parent rows spot place e = at (up rows spot) refl e
  where
    at : (o : Option ℕ) → up rows spot ≡ o → option_and_then (λ parent. seat_among rows spot.node parent (fields_in rows parent)) o ≡ Some place → up rows spot ≡ Some place.parent
    at None is e = cc
    at (Some parent) is e = is ∙ ap Some (sym (seat_parent rows spot.node parent (fields_in rows parent) place e))

-- a sibling of a node has the same nodes above
sibling_above : (rows : List Row) (spot : Spot) (place : Seat) (index number : ℕ) → seat rows spot ≡ Some place → sibling_at rows spot.top place index ≡ Some number →
    above_of rows (spot_of spot.top number) ≡ above_of rows spot
sibling_above rows spot place index number own found =
    let there = sibling_up rows spot.top place.parent number (child_at rows place.parent place.field index) found in
    above_up rows (spot_of spot.top number) place.parent there ∙ sym (above_up rows spot place.parent (own_parent rows spot place own))

-- a test that fails for all nodes that are nested in one fails for their siblings
module _ (rows : List Row) (test : Spot → Bool) where
  never_siblings : (spot : Spot) (place : Seat) → seat rows spot ≡ Some place → ((third : Spot) → Nested rows third spot → test third ≡ false) →
      (index : ℕ) → list_any test (map (spot_of spot.top) (siblings_below rows spot.top place index)) ≡ false
  never_siblings spot place own never zero = refl
  never_siblings spot place own never (suc index) =
      at (sibling_at rows spot.top place index) refl (never_siblings spot place own never index)
    where
      at : (o : Option ℕ) → sibling_at rows spot.top place index ≡ o → list_any test (map (spot_of spot.top) (siblings_below rows spot.top place index)) ≡ false →
          list_any test (map (spot_of spot.top) (cons_or_skip o (siblings_below rows spot.top place index))) ≡ false
      at None is rest = rest
      at (Some number) is rest =
          let fails = never (spot_of spot.top number) (nested_same rows (spot_of spot.top number) spot (sibling_above rows spot place index number own is)) in
          ap (λ b. b || list_any test (map (spot_of spot.top) (siblings_below rows spot.top place index))) fails ∙ rest

  pub never_earlier : (spot other : Spot) → Nested rows other spot → ((third : Spot) → Nested rows third spot → test third ≡ false) → list_any test (earlier_spots rows other) ≡ false
  never_earlier spot other nested never = at (seat rows other) refl
    where
      at : (o : Option Seat) → seat rows other ≡ o → list_any test (map (spot_of other.top) (option_map_or (λ place. siblings_below rows other.top place place.index) o [])) ≡ false
      at None is = refl
      at (Some place) is = never_siblings other place is (λ third below. never third (nested_through rows third other spot below nested)) place.index

  pub never_previous : (spot other : Spot) → Nested rows other spot → ((third : Spot) → Nested rows third spot → test third ≡ false) →
      holds_of test (option_map (spot_of other.top) (previous_of rows other)) ≡ false
  never_previous spot other nested never = at (seat rows other) refl
    where
      found : (place : Seat) → seat rows other ≡ Some place → (o : Option ℕ) → sibling_at rows other.top place (place.index - 1) ≡ o →
          holds_of test (option_map (spot_of other.top) o) ≡ false
      found place own None is = refl
      found place own (Some number) is =
          never (spot_of other.top number) (nested_through rows (spot_of other.top number) other spot (nested_same rows (spot_of other.top number) other (sibling_above rows other place (place.index - 1) number own is)) nested)

      at : (o : Option Seat) → seat rows other ≡ o →
          holds_of test (option_map (spot_of other.top) (option_and_then (λ place. if place.index == 0 then None else sibling_at rows other.top place (place.index - 1)) o)) ≡ false
      at None is = refl
      at (Some place) is =
          elim (place.index == 0) as (λ b. holds_of test (option_map (spot_of other.top) (cond b None (sibling_at rows other.top place (place.index - 1)))) ≡ false) [
            | true ↦ refl
            | false ↦ found place is (sibling_at rows other.top place (place.index - 1)) refl
          ]

-- what a sibling is nested in
pub sibling_nested : (rows : List Row) (spot : Spot) (place : Seat) (index number : ℕ) → seat rows spot ≡ Some place → sibling_at rows spot.top place index ≡ Some number →
    (third : Spot) → Nested rows third spot → Nested rows third (spot_of spot.top number)
sibling_nested rows spot place index number own found third nested =
    nested_through rows third spot (spot_of spot.top number) nested (nested_same rows spot (spot_of spot.top number) (sym (sibling_above rows spot place index number own found)))

pub previous_nested : (rows : List Row) (spot : Spot) (number : ℕ) → previous_of rows spot ≡ Some number →
    (third : Spot) → Nested rows third spot → Nested rows third (spot_of spot.top number)
previous_nested rows spot number e third nested = at (seat rows spot) refl e
  where
    at : (o : Option Seat) → seat rows spot ≡ o →
        option_and_then (λ place. if place.index == 0 then None else sibling_at rows spot.top place (place.index - 1)) o ≡ Some number →
        Nested rows third (spot_of spot.top number)
    at None is e = cc
    at (Some place) is e =
        elim (place.index == 0) as (λ b. cond b None (sibling_at rows spot.top place (place.index - 1)) ≡ Some number → Nested rows third (spot_of spot.top number)) [
          | true ↦ λ none. cc
          | false ↦ λ found. sibling_nested rows spot place (place.index - 1) number is found third nested
        ] e

-- a chain with one link more
pub links_last : (rows : List Row) (first : List Atom) (links before : List (Link Atom)) (last : Link Atom) (spot : Spot) → links ≡ before ++ last ∷ [] →
    links_in rows first links spot ≡ (compound_in rows last.compound spot && reaches (row_sight rows) last.combinator (links_in rows first before) spot)
links_last rows first links before last spot e =
    ap (λ (all : List (Link Atom)). links_in rows first all spot) e
    ∙ ap (λ (holds : Spot → Bool). holds spot) (fold-last (link_holds (row_sight rows) (atom_in rows)) (compound_in rows first) before last)

pub and_false : (a b : Bool) → b ≡ false → (a && b) ≡ false
and_false true b e = e
and_false false b e = refl
