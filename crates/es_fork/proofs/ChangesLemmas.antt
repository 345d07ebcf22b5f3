-- What each change leaves, segment by segment.
use Rattle.std.proofs.Common.{◌≡◌, ℕ, suc, ◌+◌, ◌-◌, ◌<◌, ◌≤◌, ◌==◌, ◌||◌, Bool, true, false, List, [], ◌∷◌, ◌++◌, inl, inr, length, map, sym, ◌∙◌, ap, arith, get_or, length-set, slice_set, drop, take, add-one, cond, ne_eqb, filter, nat_le, append-nil}
use Rattle.std.proofs.lemmas.Bool.{eq-eqb, cases_Bool, lt-leb}
use Rattle.std.proofs.lemmas.List.{set-set, set-get_or, drop_all, take_all}
use Rattle.std.proofs.lemmas.List.Elements.{filter-append}
use Rattle.std.proofs.Math.Seq.{map-set_same}
use Rattle.es_fork.specs.Edges.{before}
use Rattle.std.proofs.Math.Seq.{drop-cons}
use Rattle.std.proofs.lemmas.List.Folds.{list_any_at}
use Rattle.std.specs.List.{list_any}
use Rattle.es_fork.specs.declared.segment.Segment.{Segment}
use Rattle.es_fork.specs.declared.segment.Label.{Label}
use Rattle.es_fork.specs.Graphs.{segment_at, no_segment, IsOf}
use Rattle.es_fork.specs.Changes.{labelled_at, edge_put, has_edge, edged, connected, fresh, grown}
use Rattle.es_fork.proofs.GraphsLemmas.{index_of_number, segment_is, segment_at-index, segment_at-set_same, split_first, default_free}

pub length-labelled_at : (g : List Segment) (id : ℕ) (l : Label) → length (labelled_at g id l) ≡ length g
unfolding labelled_at
length-labelled_at g id l = length-set g (id - 1) _

pub length-edge_put : (g : List Segment) (from to : ℕ) → length (edge_put g from to) ≡ length g
unfolding edge_put
length-edge_put g from to = length-set g (from - 1) _

-- what the code writes is the changed list
pub written_label : (g : List Segment) (index id : ℕ) (x : Segment) (ls : List Label) (l : Label) → index + 1 ≡ id → id ≤ length g → x ≡ get_or g index x
    → ls ≡ x.labels ++ l ∷ [] → slice_set g index (record { labels = ls; next = x.next; reachable = x.reachable }) ≡ labelled_at g id l
unfolding labelled_at
written_label g index id x ls l e le q w =
    let s : x ≡ segment_at g id = segment_is g index id x e le q in
    let i : index ≡ id - 1 = index_of_number index id e in
    let v : ls ≡ (segment_at g id).labels ++ l ∷ [] = w ∙ ap (λ r. r.labels ++ l ∷ []) s in
    λ k. slice_set g (i k) (record { labels = v k; next = (s k).next; reachable = (s k).reachable })

pub written_edge : (g : List Segment) (index id : ℕ) (x : Segment) (ys : List ℕ) (to : ℕ) → index + 1 ≡ id → id ≤ length g → x ≡ get_or g index x
    → ys ≡ x.next ++ to ∷ [] → slice_set g index (record { labels = x.labels; next = ys; reachable = x.reachable }) ≡ edge_put g id to
unfolding edge_put
written_edge g index id x ys to e le q w =
    let s : x ≡ segment_at g id = segment_is g index id x e le q in
    let i : index ≡ id - 1 = index_of_number index id e in
    let v : ys ≡ (segment_at g id).next ++ to ∷ [] = w ∙ ap (λ r. r.next ++ to ∷ []) s in
    λ k. slice_set g (i k) (record { labels = (s k).labels; next = v k; reachable = (s k).reachable })

-- a segment that is put back leaves the list as it was
put_back : (g held : List Segment) (index id : ℕ) (s y : Segment) → index + 1 ≡ id → g ≡ slice_set held (id - 1) s → y ≡ segment_at held id → slice_set g index y ≡ held
put_back g held index id s y e w q =
    let i : index ≡ id - 1 = index_of_number index id e in
    let r : y ≡ get_or held index no_segment = q ∙ segment_at-index held index id e in
    let m : slice_set g index y ≡ slice_set (slice_set held index s) index (get_or held index no_segment) =
    λ k. slice_set ((w ∙ ap (λ j. slice_set held j s) (sym i)) k) index (r k) in
    m ∙ set-set held index s (get_or held index no_segment) ∙ set-get_or held index no_segment

-- a label that is taken back leaves what was there
pub label_back : (g held : List Segment) (index id : ℕ) (x : Segment) (ls : List Label) (l : Label) → index + 1 ≡ id → id ≤ length g → x ≡ get_or g index x
    → ((before : List Label) (item : Label) → x.labels ≡ before ++ item ∷ [] → ls ≡ before) → g ≡ labelled_at held id l
    → slice_set g index (record { labels = ls; next = x.next; reachable = x.reachable }) ≡ held
unfolding labelled_at
label_back g held index id x ls l e le q back w =
    let n : length g ≡ length held = ap length w ∙ length-set held (id - 1) _ in
    let of : IsOf held id = record { from_one = omega arith; to_last = omega arith } in
    let s : x ≡ record (segment_at held id) { labels = (segment_at held id).labels ++ l ∷ [] } =
    segment_is g index id x e le q ∙ ap (λ k. segment_at k id) w ∙ segment_at-set_same held id _ of in
    let b : ls ≡ (segment_at held id).labels = back (segment_at held id).labels l (ap (λ r. r.labels) s) in
    put_back g held index id _ _ e w (λ k. record { labels = b k; next = (s k).next; reachable = (s k).reachable })

pub edge_back : (g held : List Segment) (index id : ℕ) (x : Segment) (ys : List ℕ) (to : ℕ) → index + 1 ≡ id → id ≤ length g → x ≡ get_or g index x
    → ((before : List ℕ) (item : ℕ) → x.next ≡ before ++ item ∷ [] → ys ≡ before) → g ≡ edge_put held id to
    → slice_set g index (record { labels = x.labels; next = ys; reachable = x.reachable }) ≡ held
unfolding edge_put
edge_back g held index id x ys to e le q back w =
    let n : length g ≡ length held = ap length w ∙ length-set held (id - 1) _ in
    let of : IsOf held id = record { from_one = omega arith; to_last = omega arith } in
    let s : x ≡ record (segment_at held id) { next = (segment_at held id).next ++ to ∷ [] } =
    segment_is g index id x e le q ∙ ap (λ k. segment_at k id) w ∙ segment_at-set_same held id _ of in
    let b : ys ≡ (segment_at held id).next = back (segment_at held id).next to (ap (λ r. r.next) s) in
    put_back g held index id _ _ e w (λ k. record { labels = (s k).labels; next = b k; reachable = (s k).reachable })

-- the search of an edge: found, passed over, and missed
pub edge_found : (g : List Segment) (index from to : ℕ) (x : Segment) (ids : List ℕ) (i y : ℕ) → index + 1 ≡ from → from ≤ length g → x ≡ get_or g index x → ids ≡ x.next
    → i < length ids → y ≡ get_or ids i y → y ≡ to → true ≡ has_edge g from to
edge_found g index from to x ids i y e le q s lt at is =
    sym (ap (list_any (λ next. next == to)) (sym (s ∙ ap (λ r. r.next) (segment_is g index from x e le q))) ∙ list_any_at (λ next. next == to) ids i y lt (eq-eqb _ _ (sym at ∙ is)))

pub edge_passed : (to : ℕ) (ids : List ℕ) (i y : ℕ) → list_any (λ next. next == to) (drop i ids) ≡ list_any (λ next. next == to) ids → i < length ids → y ≡ get_or ids i y → (y ≡ to → ⊥)
    → list_any (λ next. next == to) (drop (i + 1) ids) ≡ list_any (λ next. next == to) ids
edge_passed to ids i y known lt at other =
    let here : (get_or ids i y == to) ≡ false = ne_eqb _ _ (λ e. other (at ∙ e)) in
    let step : list_any (λ next. next == to) (drop i ids) ≡ ((get_or ids i y == to) || list_any (λ next. next == to) (drop (i + 1) ids)) =
    ap (list_any (λ next. next == to)) (drop-cons ids i y lt ∙ ap (λ n. get_or ids i y ∷ drop n ids) (sym (add-one i))) in
    sym (step ∙ ap (λ b. b || list_any (λ next. next == to) (drop (i + 1) ids)) here) ∙ known

pub edge_missed : (g : List Segment) (index from to : ℕ) (x : Segment) (ids : List ℕ) (i : ℕ) → index + 1 ≡ from → from ≤ length g → x ≡ get_or g index x → ids ≡ x.next
    → list_any (λ next. next == to) (drop i ids) ≡ list_any (λ next. next == to) ids → length ids ≤ i → false ≡ has_edge g from to
edge_missed g index from to x ids i e le q s known past =
    ap (list_any (λ next. next == to)) (sym (drop_all i ids past)) ∙ known ∙ ap (list_any (λ next. next == to)) (s ∙ ap (λ r. r.next) (segment_is g index from x e le q))

pub edged_there : (g : List Segment) (from to : ℕ) → has_edge g from to ≡ true → edged g from to ≡ g
unfolding edged
edged_there g from to e = ap (λ b. cond b g (edge_put g from to)) e

pub edged_missing : (g : List Segment) (from to : ℕ) → has_edge g from to ≡ false → edged g from to ≡ edge_put g from to
unfolding edged
edged_missing g from to e = ap (λ b. cond b g (edge_put g from to)) e

-- the first edge, and then the others
pub connected_first : (g m : List Segment) (edges : List (ℕ × ℕ)) (d e : ℕ × ℕ) → 1 ≤ length edges → m ≡ edged g (get_or edges 0 d).0 (get_or edges 0 e).1
    → connected m (take (length edges - 1) (drop 1 edges)) ≡ connected g edges
connected_first g m edges d e some w =
    let one : get_or edges 0 e ≡ get_or edges 0 d = default_free edges 0 e d (omega arith) in
    ap (λ k. connected k (take (length edges - 1) (drop 1 edges))) (w ∙ ap (λ p. edged g (get_or edges 0 d).0 p.1) one) ∙ sym (ap (connected g) (split_first edges d some))

pub length-edged : (g : List Segment) (from to : ℕ) → length (edged g from to) ≡ length g
length-edged g from to = elim (cases_Bool (has_edge g from to)) [
  | inl e ↦ ap length (edged_there g from to e)
  | inr e ↦ ap length (edged_missing g from to e) ∙ length-edge_put g from to
]

pub grown_is : (g : List Segment) (flags : List Bool) (n : ℕ) → length flags ≤ n → g ++ map fresh (take n flags) ≡ grown g flags
unfolding grown
grown_is g flags n le = ap (λ l. g ++ map fresh l) (take_all n flags le)

-- what keeps of a segment its edges up to the last doesn't see an edge past it
before-edge : (last : ℕ) (s : Segment) (to : ℕ) → last < to → before last (record s { next = s.next ++ to ∷ [] }) ≡ before last s
before-edge last s to past =
    let none : filter (λ id. nat_le id last) (to ∷ []) ≡ [] = ap (λ b. cond b (to ∷ []) []) (lt-leb to last past) in
    λ k. record { labels = s.labels; next = (filter-append (λ id. nat_le id last) s.next (to ∷ []) ∙ ap (λ l. filter (λ id. nat_le id last) s.next ++ l) none ∙ append-nil _) k; reachable = s.reachable }

before-put : (last : ℕ) (g : List Segment) (from to : ℕ) → 1 ≤ from → last < to → map (before last) (edge_put g from to) ≡ map (before last) g
unfolding edge_put
before-put last g from to lo past =
    map-set_same (before last) g (from - 1) _ no_segment (before-edge last (segment_at g from) to past ∙ ap (before last) (segment_at-index g (from - 1) from (omega arith)))

pub before-edged : (last : ℕ) (g : List Segment) (from to : ℕ) → 1 ≤ from → last < to → map (before last) (edged g from to) ≡ map (before last) g
before-edged last g from to lo past = elim (cases_Bool (has_edge g from to)) [
  | inl e ↦ ap (map (before last)) (edged_there g from to e)
  | inr e ↦ ap (map (before last)) (edged_missing g from to e) ∙ before-put last g from to lo past
]

-- an edge more
pub connected_step : (g m : List Segment) (edges : List (ℕ × ℕ)) (i : ℕ) (edge : ℕ × ℕ) → i < length edges → edge ≡ get_or edges i edge → m ≡ edged g edge.0 edge.1
    → connected m (drop (i + 1) edges) ≡ connected g (drop i edges)
connected_step g m edges i edge lt e w =
    ap (λ k. connected k (drop (i + 1) edges)) w ∙ ap (λ n. connected (edged g edge.0 edge.1) (drop n edges)) (add-one i)
    ∙ ap (λ p. connected (edged g p.0 p.1) (drop (suc i) edges)) e ∙ sym (ap (connected g) (drop-cons edges i edge lt))
