-- The nodes that a rule of nodes hears of, and texts of ASCII.
use Rattle.std.proofs.Common.{◌≡◌, ℕ, zero, suc, ◌<◌, Bool, true, false, List, [], ◌∷◌, ◌++◌, nat_lt, length, map, refl, sym, subst, arith}
use Rattle.std.specs.List.{All, AllByRecursion, flat_map, range_with_len}
use Rattle.std.specs.Prelude.{if◌then◌else◌}
use Rattle.std.specs.Str.{chars}
use Rattle.std.proofs.lemmas.List.Sums.{AllPass-from_list_all}
use Rattle.std.proofs.lemmas.Str.{chars-IsAscii}
use Rattle.std.proofs.lemmas.Str.Ascii.{IsAscii-from_all}
use borrow.Author.Tests.{ltb-true}
use Rattle.es_tree.specs.Rows.{IsNumbered, Row}
use Rattle.es_selectors.specs.declared.selector.Spelling.{Spelling}
use Rattle.es_host.specs.declared.nodes.Asked.{Asked}
use Rattle.es_host.proofs.LawfulLemmas.{hears-asked}
use Rattle.es_host.proofs.WalkLemmas.{child-behind}
use Rattle.es_host.specs.Lawful.{event_of, hears, is_asked, told, told_at, told_of}
use Rattle.es_host.specs.Meanings.{Event}
use Rattle.es_host.specs.Nodes.{asked_of, is_plain}
use Rattle.es_host.specs.Walk.{Moment, children, moment, walk, walk_from, walk_within}

-- a text of ASCII has its bytes as characters
pub chars_plain : (bytes : List ℕ) → is_plain bytes ≡ true → chars bytes ≡ bytes
chars_plain bytes plain =
    chars-IsAscii bytes (IsAscii-from_all bytes (λ k d within. ltb-true _ _ (AllPass-from_list_all (λ byte. nat_lt byte 128) bytes plain k d within)))

module _ {X : Type 0} (P : X → Type 0) where
  all_append : (xs ys : List X) → AllByRecursion P xs → AllByRecursion P ys → AllByRecursion P (xs ++ ys)
  all_append [] ys first second = second
  all_append (x ∷ xs) ys first second = (first.0, all_append xs ys first.1 second)

  all_at : (xs : List X) → AllByRecursion P xs → All P xs
  all_at [] all k d h = absurd (omega (arith, h))
  all_at (x ∷ xs) all zero d h = all.0
  all_at (x ∷ xs) all (suc k) d h = all_at xs all.1 k d (omega (arith, h))

  all_flat_map : {Y : Type 0} (Q : Y → Type 0) (f : Y → List X) → ((y : Y) → Q y → AllByRecursion P (f y)) → (ys : List Y) → AllByRecursion Q ys → AllByRecursion P (flat_map f ys)
  all_flat_map Q f each [] all = tt
  all_flat_map Q f each (y ∷ ys) all = all_append (f y) (flat_map f ys) (each y all.0) (all_flat_map Q f each ys all.1)

  -- of any members
  all_flat_map_any : {Y : Type 0} (f : Y → List X) → ((y : Y) → AllByRecursion P (f y)) → (ys : List Y) → AllByRecursion P (flat_map f ys)
  all_flat_map_any f each [] = tt
  all_flat_map_any f each (y ∷ ys) = all_append (f y) (flat_map f ys) (each y) (all_flat_map_any f each ys)

all_from : {X : Type 0} (P : X → Type 0) (xs : List X) → All P xs → AllByRecursion P xs
all_from P [] all = tt
all_from P (x ∷ xs) all = (all 0 x (omega arith), all_from P xs (λ k d within. all (suc k) d (omega (arith, within))))

module _ (rows : List Row) (numbers : IsNumbered rows) where
  -- the walk is at nodes of the tree alone
  abbrev InTree : Moment → Type 0
  InTree moment = moment.node < length rows

  walk_inside : (s : ℕ) (path : List ℕ) (node : ℕ) → node < length rows → AllByRecursion InTree (walk_within s rows path node)
  walk_inside zero path node within = tt
  walk_inside (suc s) path node within =
      let below : AllByRecursion (λ child. child < length rows) (children rows node) =
      all_from (λ child. child < length rows) (children rows node) (λ k d h. (child-behind rows numbers node k d h).1) in (
        within,
        all_append InTree (flat_map (walk_within s rows (path ++ node ∷ [])) (children rows node)) (moment true path node ∷ [])
            (all_flat_map InTree (λ child. child < length rows) (walk_within s rows (path ++ node ∷ [])) (λ child inside. walk_inside s (path ++ node ∷ []) child inside) (children rows node) below)
            (within, tt),
      )

  module _ (interest : List Spelling) where
    -- a selector was asked for at a node of the tree, which it matches
    abbrev IsRight : Asked → Type 0
    IsRight one = (one.node < length rows) × (is_asked rows interest one.node one.which ≡ true)

    abbrev Tells : Event → Type 0
    Tells event = IsRight (asked_of event)

    told_right : (moment : Moment) → InTree moment → (which : ℕ) → AllByRecursion Tells (told_of rows interest moment which)
    told_right moment inside which = cases (hears rows interest moment which) refl
      where
        cases : (b : Bool) → hears rows interest moment which ≡ b → AllByRecursion Tells (if b then event_of moment which ∷ [] else [])
        cases false is = tt
        cases true is = ((inside, hears-asked rows interest moment which is), tt)

    all_right : AllByRecursion Tells (told rows interest (walk rows))
    all_right =
        all_flat_map Tells InTree (told_at rows interest)
        (λ moment inside. all_flat_map_any Tells (told_of rows interest moment) (told_right moment inside) (range_with_len 0 (length interest)))
        (walk rows) (from_root rows refl)
      where
        from_root : (rs : List Row) → rs ≡ rows → AllByRecursion InTree (walk rows)
        from_root [] is = subst (λ rs. AllByRecursion InTree (walk_from rs [] 0)) is tt
        from_root (r ∷ rs) is = let some : 0 < length rows = subst (λ xs. 0 < length xs) is (omega arith) in walk_inside (length rows) [] 0 some

    map_right : (events : List Event) → AllByRecursion Tells events → AllByRecursion IsRight (map asked_of events)
    map_right [] all = tt
    map_right (event ∷ events) all = (all.0, map_right events all.1)

    -- each node that a rule hears of is one of the tree, and the selector matches it
    pub asked-right : (asked : List Asked) (events : List Event) → asked ≡ map asked_of events → events ≡ told rows interest (walk rows) → All IsRight asked
    asked-right asked events kept lawful =
        all_at IsRight asked
        (subst (AllByRecursion IsRight) (sym kept) (map_right events (subst (AllByRecursion Tells) (sym lawful) all_right)))
