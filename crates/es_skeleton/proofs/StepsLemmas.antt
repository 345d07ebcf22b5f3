-- What each step of a graph at single heads leaves, segment by segment.
use Rattle.std.proofs.Common.{◌≡◌, ◌≢◌, ℕ, zero, suc, ◌-◌, ◌<◌, ◌≤◌, ◌==◌, ◌||◌, List, [], ◌∷◌, ◌++◌, ◌⊎◌, inl, inr, Bool, true, false, if◌then◌else◌, length, refl, sym, ◌∙◌, ap, subst, arith, get_or, get_or-set_same, get_or-set_other, slice_set, length-set, length-append, append_assoc, append-nil}
use Rattle.std.proofs.lemmas.Bool.{cases_eq, cases_order, cases_lt, cases_Bool, eqb-true}
use Rattle.std.proofs.lemmas.List.{get_or_append_left}
use Rattle.std.specs.List.{list_any}
use Rattle.es_fork.specs.declared.segment.Segment.{Segment}
use Rattle.es_fork.specs.declared.segment.Label.{Label}
use Rattle.es_fork.specs.Graphs.{segment_at, no_segment, Has, IsOf}
use Rattle.es_fork.specs.Changes.{fresh, grown, labelled_at, edge_put, has_edge, edged}
use Rattle.es_skeleton.specs.Steps.{next_number, looped, led, new_next, unreachable, said}

pub has_left : {A : Type 0} (xs ys : List A) (y : A) → Has xs y → Has (xs ++ ys) y
has_left [] ys y h = elim h [ ]
has_left (x ∷ xs) ys y (inl e) = inl e
has_left (x ∷ xs) ys y (inr h) = inr (has_left xs ys y h)

pub has_last : {A : Type 0} (xs : List A) (y : A) → Has (xs ++ y ∷ []) y
has_last [] y = inl refl
has_last (x ∷ xs) y = inr (has_last xs y)

pub has_either : {A : Type 0} (xs : List A) (z y : A) → Has (xs ++ z ∷ []) y → Has xs y ⊎ (y ≡ z)
has_either [] z y (inl e) = inr (sym e)
has_either [] z y (inr h) = elim h [ ]
has_either (x ∷ xs) z y (inl e) = inl (inl e)
has_either (x ∷ xs) z y (inr h) = elim (has_either xs z y h) [ inl a ↦ inl (inr a) | inr b ↦ inr b ]

pub has_right : {A : Type 0} (xs ys : List A) (y : A) → Has ys y → Has (xs ++ ys) y
has_right [] ys y h = h
has_right (x ∷ xs) ys y h = inr (has_right xs ys y h)

pub has_append : {A : Type 0} (xs ys : List A) (y : A) → Has (xs ++ ys) y → Has xs y ⊎ Has ys y
has_append [] ys y h = inr h
has_append (x ∷ xs) ys y (inl e) = inl (inl e)
has_append (x ∷ xs) ys y (inr h) = elim (has_append xs ys y h) [ inl a ↦ inl (inr a) | inr b ↦ inr b ]

-- the element that a loop reads is one of the list
pub has_index : {A : Type 0} → (xs : List A) (i : ℕ) (x : A) → i < length xs → x ≡ get_or xs i x → Has xs x
has_index xs i x lt e = subst (Has xs) (sym e) (at xs i lt)
  where
    at : (ys : List _) (j : ℕ) → j < length ys → Has ys (get_or ys j x)
    at [] j l = absurd (omega arith)
    at (y ∷ ys) zero l = inl refl
    at (y ∷ ys) (suc j) l = inr (at ys j (omega arith))

pub is_of : {g : List Segment} {x : ℕ} → 1 ≤ x → x < next_number g → IsOf g x
is_of a b = record { from_one = a; to_last = omega arith }

-- a label more
pub record Labelled (g : List Segment) (s : ℕ) (l : Label) (g' : List Segment) : Type 0 where
  pub len : next_number g' ≡ next_number g
  pub here : segment_at g' s ≡ record (segment_at g s) { labels = (segment_at g s).labels ++ l ∷ [] }
  pub rest : (x : ℕ) → x ≢ s → segment_at g' x ≡ segment_at g x

segment_at-set_same : (g : List Segment) (s : ℕ) (x : Segment) → IsOf g s → segment_at (slice_set g (s - 1) x) s ≡ x
segment_at-set_same g zero x of = absurd (let lo = of.from_one in omega arith)
segment_at-set_same g (suc j) x of =
    let hi = of.to_last in
    let e : suc j - 1 ≡ j = omega arith in
    ap (λ i. segment_at (slice_set g i x) (suc j)) e ∙ get_or-set_same g j x no_segment (omega arith)

segment_at-set_other : (g : List Segment) (s other : ℕ) (x : Segment) → 1 ≤ s → other ≢ s → segment_at (slice_set g (s - 1) x) other ≡ segment_at g other
segment_at-set_other g s zero x lo ne = refl
segment_at-set_other g s (suc j) x lo ne = get_or-set_other g (s - 1) j x no_segment (λ e. ne (let q : j ≡ s - 1 = e in omega arith))

pub labelled_facts : (g : List Segment) (s : ℕ) (l : Label) → IsOf g s → Labelled g s l (labelled_at g s l)
unfolding labelled_at
labelled_facts g s l of = record {
  len = ap suc (length-set g (s - 1) _);
  here = segment_at-set_same g s _ of;
  rest = λ x ne. segment_at-set_other g s x _ of.from_one ne;
}

-- an edge from each of hs to j
pub record Edged (g : List Segment) (hs : List ℕ) (j : ℕ) (g' : List Segment) : Type 0 where
  pub len : next_number g' ≡ next_number g
  pub labels : (x : ℕ) → (segment_at g' x).labels ≡ (segment_at g x).labels
  pub live : (x : ℕ) → (segment_at g' x).reachable ≡ (segment_at g x).reachable
  pub old : (x y : ℕ) → Has (segment_at g x).next y → Has (segment_at g' x).next y
  pub new : (h : ℕ) → Has hs h → Has (segment_at g' h).next j
  pub only : (x y : ℕ) → Has (segment_at g' x).next y → Has (segment_at g x).next y ⊎ (Has hs x × (y ≡ j))
  pub rest : (x : ℕ) → (Has hs x → ⊥) → segment_at g' x ≡ segment_at g x

put_facts : (g : List Segment) (h j : ℕ) → IsOf g h → Edged g (h ∷ []) j (edge_put g h j)
unfolding edge_put
put_facts g h j of =
    let here : segment_at (edge_put g h j) h ≡ record (segment_at g h) { next = (segment_at g h).next ++ j ∷ [] } = segment_at-set_same g h _ of in
    let there : (x : ℕ) → x ≢ h → segment_at (edge_put g h j) x ≡ segment_at g x = λ x ne. segment_at-set_other g h x _ of.from_one ne in
    record {
      len = ap suc (length-set g (h - 1) _);
      labels = λ x. elim (cases_eq x h) [
        | inl e ↦ subst (λ k. (segment_at (edge_put g h j) k).labels ≡ (segment_at g k).labels) (sym e) (ap (λ r. r.labels) here)
        | inr ne ↦ ap (λ r. r.labels) (there x ne)
      ];
      live = λ x. elim (cases_eq x h) [
        | inl e ↦ subst (λ k. (segment_at (edge_put g h j) k).reachable ≡ (segment_at g k).reachable) (sym e) (ap (λ r. r.reachable) here)
        | inr ne ↦ ap (λ r. r.reachable) (there x ne)
      ];
      old = λ x y m. elim (cases_eq x h) [
        | inl e ↦ subst (λ k. Has (segment_at (edge_put g h j) k).next y) (sym e)
            (subst (λ r. Has r.next y) (sym here) (has_left (segment_at g h).next (j ∷ []) y (subst (λ k. Has (segment_at g k).next y) e m)))
        | inr ne ↦ subst (λ r. Has r.next y) (sym (there x ne)) m
      ];
      new = λ x m. elim m [ inl e ↦ subst (λ k. Has (segment_at (edge_put g h j) k).next j) e (subst (λ r. Has r.next j) (sym here) (has_last (segment_at g h).next j)) | inr n ↦ absurd n ];
      only = λ x y m. elim (cases_eq x h) [
        | inl e ↦ elim (has_either (segment_at g h).next j y (subst (λ r. Has r.next y) here (subst (λ k. Has (segment_at (edge_put g h j) k).next y) e m))) [
          | inl o ↦ inl (subst (λ k. Has (segment_at g k).next y) (sym e) o)
          | inr q ↦ inr (inl (sym e), q)
        ]
        | inr ne ↦ inl (subst (λ r. Has r.next y) (there x ne) m)
      ];
      rest = λ x no. there x (λ e. no (inl (sym e)));
    }

has_edge-holds : (g : List Segment) (h j : ℕ) → has_edge g h j ≡ true → Has (segment_at g h).next j
has_edge-holds g h j e = go (segment_at g h).next e
  where
    go : (ids : List ℕ) → list_any (λ next. next == j) ids ≡ true → Has ids j
    go [] q = absurd (let z : false ≡ true = q in cc)
    go (id ∷ ids) q = elim (cases_Bool (id == j)) [
      | inl y ↦ inl (eqb-true id j y)
      | inr n ↦ inr (go ids (ap (λ b. b || list_any (λ next. next == j) ids) (sym n) ∙ q))
    ]

edged_facts : (g : List Segment) (h j : ℕ) → IsOf g h → Edged g (h ∷ []) j (edged g h j)
unfolding edged
edged_facts g h j of = go (has_edge g h j) refl
  where
    go : (b : Bool) → has_edge g h j ≡ b → Edged g (h ∷ []) j (if b then g else edge_put g h j)
    go true e = record {
      len = refl;
      labels = λ x. refl;
      live = λ x. refl;
      old = λ x y m. m;
      new = λ x m. elim m [ inl q ↦ subst (λ k. Has (segment_at g k).next j) q (has_edge-holds g h j e) | inr n ↦ absurd n ];
      only = λ x y m. inl m;
      rest = λ x no. refl;
    }
    go false e = put_facts g h j of

pub looped_facts : (hs : List ℕ) (g : List Segment) (j : ℕ) → ((h : ℕ) → Has hs h → IsOf g h) → Edged g hs j (looped g hs j)
looped_facts [] g j below = record {
  len = refl;
  labels = λ x. refl;
  live = λ x. refl;
  old = λ x y m. m;
  new = λ x m. absurd m;
  only = λ x y m. inl m;
  rest = λ x no. refl;
}
looped_facts (h ∷ hs) g j below =
    let a : Edged g (h ∷ []) j (edged g h j) = edged_facts g h j (below h (inl refl)) in
    let n = a.len in
    let b : Edged (edged g h j) hs j (looped (edged g h j) hs j) =
    looped_facts hs (edged g h j) j (λ x m. let o = below x (inr m) in let lo = o.from_one in let hi = o.to_last in record { from_one = lo; to_last = omega arith }) in
    record {
      len = b.len ∙ a.len;
      labels = λ x. b.labels x ∙ a.labels x;
      live = λ x. b.live x ∙ a.live x;
      old = λ x y m. b.old x y (a.old x y m);
      new = λ x m. elim m [ inl e ↦ b.old x j (a.new x (inl e)) | inr r ↦ b.new x r ];
      only = λ x y m. elim (b.only x y m) [
        | inl o ↦ elim (a.only x y o) [ inl q ↦ inl q | inr r ↦ elim r.0 [ inl e ↦ inr (inl e, r.1) | inr n ↦ absurd n ] ]
        | inr r ↦ inr (inr r.0, r.1)
      ];
      rest = λ x no. b.rest x (λ m. no (inr m)) ∙ a.rest x (λ m. elim m [ inl e ↦ no (inl e) | inr n ↦ absurd n ]);
    }

-- one more segment, with edges to it from hs
pub record Fresh (g : List Segment) (hs : List ℕ) (b : Bool) (g' : List Segment) : Type 0 where
  pub len : next_number g' ≡ suc (next_number g)
  pub labels : (x : ℕ) → x < next_number g → (segment_at g' x).labels ≡ (segment_at g x).labels
  pub live : (x : ℕ) → x < next_number g → (segment_at g' x).reachable ≡ (segment_at g x).reachable
  pub old : (x y : ℕ) → x < next_number g → Has (segment_at g x).next y → Has (segment_at g' x).next y
  pub new : (h : ℕ) → Has hs h → Has (segment_at g' h).next (next_number g)
  pub only : (x y : ℕ) → Has (segment_at g' x).next y → Has (segment_at g x).next y ⊎ (Has hs x × (y ≡ next_number g))
  pub rest : (x : ℕ) → x < next_number g → (Has hs x → ⊥) → segment_at g' x ≡ segment_at g x
  pub made : segment_at g' (next_number g) ≡ fresh b

past_index : (g : List Segment) (x : ℕ) → length g ≤ x → segment_at g (suc x) ≡ no_segment
past_index [] x le = refl
past_index (s ∷ g) zero le = absurd (omega arith)
past_index (s ∷ g) (suc x) le = past_index g x (omega arith)

pub past_end : (g : List Segment) (x : ℕ) → next_number g ≤ x → segment_at g x ≡ no_segment
past_end g zero le = refl
past_end g (suc x) le = past_index g x (omega arith)

grown_len : (g : List Segment) (b : Bool) → next_number (grown g (b ∷ [])) ≡ suc (next_number g)
unfolding grown
grown_len g b = let e = length-append g (fresh b ∷ []) in ap suc e ∙ omega arith

grown_old : (g : List Segment) (b : Bool) (x : ℕ) → x < next_number g → segment_at (grown g (b ∷ [])) x ≡ segment_at g x
unfolding grown
grown_old g b zero lt = refl
grown_old g b (suc j) lt = get_or_append_left g (fresh b ∷ []) no_segment j (omega arith)

grown_new : (g : List Segment) (b : Bool) → segment_at (grown g (b ∷ [])) (next_number g) ≡ fresh b
unfolding grown
grown_new g b = last_of g
  where
    last_of : (s : List Segment) → get_or (s ++ fresh b ∷ []) (length s) no_segment ≡ fresh b
    last_of [] = refl
    last_of (x ∷ s) = last_of s

pub fresh_facts : (g : List Segment) (hs : List ℕ) (b : Bool) → ((h : ℕ) → Has hs h → IsOf g h) → Fresh g hs b (led g hs b)
fresh_facts g hs b below =
    let n : next_number (grown g (b ∷ [])) ≡ suc (next_number g) = grown_len g b in
    let f : Edged (grown g (b ∷ [])) hs (next_number g) (led g hs b) =
    looped_facts hs (grown g (b ∷ [])) (next_number g) (λ h m. let o = below h m in let a = o.from_one in let z = o.to_last in record { from_one = a; to_last = omega arith }) in
    record {
      len = f.len ∙ n;
      labels = λ x lt. f.labels x ∙ ap (λ r. r.labels) (grown_old g b x lt);
      live = λ x lt. f.live x ∙ ap (λ r. r.reachable) (grown_old g b x lt);
      old = λ x y lt h. f.old x y (subst (λ r. Has r.next y) (sym (grown_old g b x lt)) h);
      new = f.new;
      only = λ x y h. elim (f.only x y h) [ inl q ↦ inl (only_old x y q) | inr r ↦ inr r ];
      rest = λ x lt no. f.rest x no ∙ grown_old g b x lt;
      made = f.rest (next_number g) (λ m. let lt = (below (next_number g) m).to_last in omega arith) ∙ grown_new g b;
    }
  where
    only_old : (x y : ℕ) → Has (segment_at (grown g (b ∷ [])) x).next y → Has (segment_at g x).next y
    only_old x y h = elim (cases_order x (next_number g)) [
      | inl e ↦ absurd (subst (λ r. Has r.next y) (grown_new g b) (subst (λ k. Has (segment_at (grown g (b ∷ [])) k).next y) e h))
      | inr o ↦ elim o [
        | inl lt ↦ subst (λ r. Has r.next y) (grown_old g b x lt) h
        | inr gt ↦ let n : next_number (grown g (b ∷ [])) ≡ suc (next_number g) = grown_len g b in
            absurd (subst (λ r. Has r.next y) (past_end (grown g (b ∷ [])) x (omega arith)) h)
      ]
    ]

pub edge_below : (g : List Segment) (x y : ℕ) → Has (segment_at g x).next y → x < next_number g
edge_below g x y h = elim (cases_lt x (next_number g)) [ inl lt ↦ lt | inr le ↦ absurd (subst (λ r. Has r.next y) (past_end g x le) h) ]

-- some labels more
pub record Said (g : List Segment) (s : ℕ) (ls : List Label) (g' : List Segment) : Type 0 where
  pub len : next_number g' ≡ next_number g
  pub here : segment_at g' s ≡ record (segment_at g s) { labels = (segment_at g s).labels ++ ls }
  pub rest : (x : ℕ) → x ≢ s → segment_at g' x ≡ segment_at g x

pub said_facts : (ls : List Label) (g : List Segment) (s : ℕ) → IsOf g s → Said g s ls (said g s ls)
said_facts [] g s of = record { len = refl; here = ap (λ l. record (segment_at g s) { labels = l }) (sym (append-nil (segment_at g s).labels)); rest = λ x n. refl }
said_facts (l ∷ ls) g s of =
    let f = labelled_facts g s l of in
    let n = f.len in
    let a = of.from_one in
    let z = of.to_last in
    let r = said_facts ls (labelled_at g s l) s (record { from_one = a; to_last = omega arith }) in
    record {
      len = r.len ∙ n;
      here = r.here ∙ ap {A = Segment} (λ h. record h { labels = h.labels ++ ls }) f.here ∙ ap (λ k. record (segment_at g s) { labels = k }) (append_assoc (segment_at g s).labels (l ∷ []) ls);
      rest = λ x ne. r.rest x ne ∙ f.rest x ne;
    }

-- one more segment, which no edge enters or leaves, with the labels
pub record Apart (g : List Segment) (ls : List Label) (g' : List Segment) : Type 0 where
  pub len : next_number g' ≡ suc (next_number g)
  pub old : (x : ℕ) → x < next_number g → segment_at g' x ≡ segment_at g x
  pub made : segment_at g' (next_number g) ≡ record (fresh false) { labels = ls }

pub apart_facts : (g : List Segment) (ls : List Label) → Apart g ls (said (unreachable g) (next_number g) ls)
apart_facts g ls =
    let f = fresh_facts g [] false (λ h m. absurd m) in
    let n = f.len in
    let s = said_facts ls (unreachable g) (next_number g) (record { from_one = omega arith; to_last = omega arith }) in
    record {
      len = s.len ∙ n;
      old = λ x lt. s.rest x (omega arith) ∙ f.rest x lt (λ m. m);
      made = s.here ∙ ap {A = Segment} (λ r. record r { labels = r.labels ++ ls }) f.made;
    }

pub new_facts : (g : List Segment) (at : ℕ) → 1 ≤ at → at < next_number g → Fresh g (at ∷ []) (segment_at g at).reachable (new_next g at)
new_facts g at ab lt = fresh_facts g (at ∷ []) (segment_at g at).reachable (λ h m. elim m [ inl e ↦ subst (λ n. IsOf g n) e (is_of ab lt) | inr n ↦ absurd n ])
