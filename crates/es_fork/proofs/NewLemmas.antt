-- The edges that the calls ask for lead to new segments.
use Rattle.std.proofs.Common.{◌≡◌, ℕ, zero, suc, ◌+◌, ◌-◌, ◌<◌, ◌≤◌, ◌||◌, ◌^◌, Bool, true, false, List, [], ◌∷◌, inl, inr, length, map, refl, sym, ◌∙◌, ap, subst, arith, get_or}
use Rattle.std.proofs.Math.ListN.{get_or-map}
use Rattle.std.proofs.lemmas.List.{length-map}
use Rattle.std.proofs.lemmas.List.FromFn.{get_or-map-range_with_len, length-map-range_with_len}
use Rattle.std.proofs.lemmas.Bool.{cases_lt, cases_Bool, false≢true}
use Rattle.std.specs.List.{zip, list_any, range_with_len, flat_map}
use Rattle.es_fork.specs.declared.segment.Segment.{Segment}
use Rattle.es_fork.specs.declared.fork.Fork.{Fork}
use Rattle.es_fork.specs.Graphs.{Parts, segment_at, Has, IsOf, AreOf}
use Rattle.es_fork.specs.Forks.{AreAlike, LeadsOn}
use Rattle.es_fork.specs.Walks.{IsGraph}
use Rattle.es_fork.specs.Changes.{flags, new_ids, width, joins_reachable, edges_to, connected, after, joined, grown}
use Rattle.es_fork.proofs.WalksLemmas.{graph_led, graph_made}
use Rattle.es_fork.proofs.GraphsLemmas.{Has-at, Has-append, Has-append_left, Has-append_right}
use Rattle.es_fork.specs.Edges.{AreFrom, LeadsToNew}

-- an edge of the list stands at an index
pub zip_has : (heads : List ℕ) (a x y : ℕ) → Has (zip heads (range_with_len a (length heads))) (x, y) → (i : ℕ) × (i < length heads) × (x ≡ get_or heads i 0) × (y ≡ a + i)
zip_has [] a x y h = elim h [ ]
zip_has (head ∷ heads) a x y (inl e) = (0, omega arith, sym (ap (λ p. p.0) e), let q : a ≡ y = ap (λ p. p.1) e in omega arith)
zip_has (head ∷ heads) a x y (inr h) = let r = zip_has heads (a + 1) x y h in let lt = r.1 in let q = r.3 in (suc r.0, omega arith, r.2, omega arith)

pub has_zip : (heads : List ℕ) (a i : ℕ) → i < length heads → Has (zip heads (range_with_len a (length heads))) (get_or heads i 0, a + i)
has_zip [] a i lt = absurd (omega arith)
has_zip (head ∷ heads) a zero lt = inl (λ k. (head, (let e : a ≡ a + 0 = omega arith in e) k))
has_zip (head ∷ heads) a (suc i) lt =
    inr (subst (λ n. Has (zip heads (range_with_len (a + 1) (length heads))) (get_or heads i 0, n)) (let e : a + 1 + i ≡ a + suc i = omega arith in e) (has_zip heads (a + 1) i (omega arith)))

pub past_default : {A : Type 0} → (xs : List A) (i : ℕ) (d : A) → length xs ≤ i → get_or xs i d ≡ d
past_default [] i d le = refl
past_default (x ∷ xs) zero d le = absurd (omega arith)
past_default (x ∷ xs) (suc i) d le = past_default xs i d (omega arith)

flag_at : (g : List Segment) (heads : List ℕ) (i : ℕ) → get_or (flags g heads) i false ≡ (segment_at g (get_or heads i 0)).reachable
flag_at g heads i = get_or-map (λ head. (segment_at g head).reachable) heads i 0

-- a new segment after each head
pub leads_after : (g : List Segment) (heads : List ℕ) → AreOf g heads → LeadsToNew g (flags g heads) (zip heads (new_ids g (length heads)))
leads_after g heads of =
    let n : length (flags g heads) ≡ length heads = length-map heads (λ head. (segment_at g head).reachable) in
    record {
      from = λ edge h. let r = zip_has heads (length g + 1) edge.0 edge.1 h in subst (IsOf g) (sym r.2) (of (get_or heads r.0 0) (Has-at heads r.0 r.1));
      past = λ x y h. let r = zip_has heads (length g + 1) x y h in let e = r.3 in omega arith;
      within = λ x y h. let r = zip_has heads (length g + 1) x y h in let e = r.3 in let lt = r.1 in omega arith;
      leads = λ x y h q.
          let r = zip_has heads (length g + 1) x y h in
          let e = r.3 in
          ap (λ i. get_or (flags g heads) i false) (let z : y - length g - 1 ≡ r.0 = omega arith in z) ∙ flag_at g heads r.0 ∙ sym (ap (λ i. (segment_at g i).reachable) r.2) ∙ q;
      comes = λ y past q.
          let i = y - length g - 1 in
          let lt : i < length heads = elim (cases_lt i (length heads)) [
            | inl l ↦ l
            | inr le ↦ absurd (false≢true (sym (past_default (flags g heads) i false (subst (λ m. m ≤ i) (sym n) le)) ∙ q))
          ] in
          (get_or heads i 0, subst (λ m. Has (zip heads (new_ids g (length heads))) (get_or heads i 0, m)) (let z : length g + 1 + i ≡ y = omega arith in z) (has_zip heads (length g + 1) i lt), sym (flag_at g heads i) ∙ q);
    }

has_flat_map : {A B : Type 0} → (f : A → List B) (xs : List A) (y : B) → Has (flat_map f xs) y → (x : A) × Has xs x × Has (f x) y
has_flat_map f [] y h = elim h [ ]
has_flat_map f (x ∷ xs) y h = elim (Has-append (f x) (flat_map f xs) y h) [
  | inl l ↦ (x, inl refl, l)
  | inr r ↦ let s = has_flat_map f xs y r in (s.0, inr s.1, s.2)
]

flat_map_has : {A B : Type 0} → (f : A → List B) (xs : List A) (x : A) (y : B) → Has xs x → Has (f x) y → Has (flat_map f xs) y
flat_map_has f [] x y h q = elim h [ ]
flat_map_has f (z ∷ xs) x y (inl e) q = Has-append_left (f z) (flat_map f xs) y (subst (λ w. Has (f w) y) (sym e) q)
flat_map_has f (z ∷ xs) x y (inr h) q = Has-append_right (f z) (flat_map f xs) y (flat_map_has f xs x y h q)

any_has : {A : Type 0} → (p : A → Bool) (xs : List A) → list_any p xs ≡ true → (x : A) × Has xs x × (p x ≡ true)
any_has p [] q = absurd (false≢true q)
any_has p (x ∷ xs) q = elim (cases_Bool (p x)) [
  | inl y ↦ (x, inl refl, y)
  | inr n ↦ let r = any_has p xs (ap (λ b. b || list_any p xs) (sym n) ∙ q) in (r.0, inr r.1, r.2)
]

has_any : {A : Type 0} → (p : A → Bool) (xs : List A) (x : A) → Has xs x → p x ≡ true → list_any p xs ≡ true
has_any p [] x h q = elim h [ ]
has_any p (z ∷ xs) x (inl e) q = ap (λ b. b || list_any p xs) (ap p e ∙ q)
has_any p (z ∷ xs) x (inr h) q = ap (λ b. p z || b) (has_any p xs x h q) ∙ or_true (p z)
  where
    or_true : (b : Bool) → (b || true) ≡ true
    or_true true = refl
    or_true false = refl

-- a new segment for each index of heads
module _ (g : List Segment) (parts : List Fork) (of : (part : Fork) → Has parts part → AreOf g part.heads) (alike : AreAlike parts) where
  abbrev joined_flags : List Bool
  joined_flags = map (joins_reachable g parts) (range_with_len 0 (width parts))

  abbrev joined_edges : List (ℕ × ℕ)
  joined_edges = edges_to parts (new_ids g (width parts))

  -- an edge stands at an index of a part
  edge_has : (x y : ℕ) → Has joined_edges (x, y) → (part : Fork) × Has parts part × ((i : ℕ) × (i < length part.heads) × (x ≡ get_or part.heads i 0) × (y ≡ length g + 1 + i))
  edge_has x y h =
      let r = has_flat_map (λ part. zip part.heads (new_ids g (width parts))) parts (x, y) h in
      (r.0, r.1, zip_has r.0.heads (length g + 1) x y (subst (λ n. Has (zip r.0.heads (new_ids g n)) (x, y)) (sym (alike r.0 r.1)) r.2))

  has_edge_of : (part : Fork) (i : ℕ) → Has parts part → i < length part.heads → Has joined_edges (get_or part.heads i 0, length g + 1 + i)
  has_edge_of part i h lt =
      flat_map_has (λ p. zip p.heads (new_ids g (width parts))) parts part _ h
      (subst (λ n. Has (zip part.heads (new_ids g n)) (get_or part.heads i 0, length g + 1 + i)) (alike part h) (has_zip part.heads (length g + 1) i lt))

  joined_flag : (i : ℕ) → i < width parts → get_or joined_flags i false ≡ joins_reachable g parts i
  joined_flag i lt = get_or-map-range_with_len (joins_reachable g parts) 0 (width parts) i i false lt (omega arith)

  pub length-joined_flags : length joined_flags ≡ width parts
  length-joined_flags = length-map-range_with_len (joins_reachable g parts) 0 (width parts)

  pub leads_joined : LeadsToNew g joined_flags joined_edges
  leads_joined =
      let n = length-joined_flags in
      record {
        from = λ edge h. let r = edge_has edge.0 edge.1 h in let i = r.2 in subst (IsOf g) (sym i.2) (of r.0 r.1 (get_or r.0.heads i.0 0) (Has-at r.0.heads i.0 i.1));
        past = λ x y h. let r = edge_has x y h in let e = r.2.3 in omega arith;
        within = λ x y h. let r = edge_has x y h in let e = r.2.3 in let lt = r.2.1 in let w = alike r.0 r.1 in omega arith;
        leads = λ x y h q.
            let r = edge_has x y h in
            let i = r.2 in
            let e = i.3 in
            let lt = i.1 in
            let w = alike r.0 r.1 in
            ap (λ j. get_or joined_flags j false) (let z : y - length g - 1 ≡ i.0 = omega arith in z) ∙ joined_flag i.0 (omega arith)
            ∙ has_any (λ part. (segment_at g (get_or part.heads i.0 0)).reachable) parts r.0 r.1 (sym (ap (λ j. (segment_at g j).reachable) i.2) ∙ q);
        comes = λ y past q.
            let i = y - length g - 1 in
            let lt : i < width parts = elim (cases_lt i (width parts)) [
              | inl l ↦ l
              | inr le ↦ absurd (false≢true (sym (past_default joined_flags i false (subst (λ m. m ≤ i) (sym n) le)) ∙ q))
            ] in
            let r = any_has (λ part. (segment_at g (get_or part.heads i 0)).reachable) parts (sym (joined_flag i lt) ∙ q) in
            let w = alike r.0 r.1 in
            (get_or r.0.heads i 0, subst (λ m. Has joined_edges (get_or r.0.heads i 0, m)) (let z : length g + 1 + i ≡ y = omega arith in z) (has_edge_of r.0 i r.1 (omega arith)), r.2);
      }

-- one new segment that no edge enters
pub leads_nowhere : (g : List Segment) → LeadsToNew g (false ∷ []) []
leads_nowhere g = record {
  from = λ edge h. absurd h;
  past = λ x y h. absurd h;
  within = λ x y h. absurd h;
  leads = λ x y h q. absurd h;
  comes = λ y past q. absurd (false≢true (sym (no_flag (y - length g - 1)) ∙ q));
}
  where
    no_flag : (i : ℕ) → get_or (false ∷ []) i false ≡ false
    no_flag zero = refl
    no_flag (suc i) = refl

-- the lists that the code makes for the two
pub after_made : (g d : List Segment) (heads ids ids' : List ℕ) (fl : List Bool) (es : List (ℕ × ℕ)) → AreOf g heads → d ≡ g → fl ≡ flags d heads → ids ≡ new_ids g (length heads) → ids' ≡ ids → es ≡ zip heads ids'
    → LeadsToNew g fl es
after_made g d heads ids ids' fl es of same f i i' e =
    subst (LeadsToNew g fl) (sym (e ∙ ap (zip heads) (i' ∙ i))) (subst (λ l. LeadsToNew g l (zip heads (new_ids g (length heads)))) (sym (f ∙ ap (λ s. flags s heads) same)) (leads_after g heads of))

pub joined_made : (g d : List Segment) (parts : List Fork) (w : ℕ) (ids ids' : List ℕ) (fl : List Bool) (es : List (ℕ × ℕ)) → ((part : Fork) → Has parts part → AreOf g part.heads) → AreAlike parts → w ≡ width parts
    → d ≡ g → fl ≡ map (joins_reachable d parts) (range_with_len 0 w) → ids ≡ new_ids g w → ids' ≡ ids → es ≡ edges_to parts ids' → LeadsToNew g fl es
joined_made g d parts w ids ids' fl es of alike n same f i i' e =
    subst (LeadsToNew g fl) (sym (e ∙ ap (edges_to parts) (i' ∙ i ∙ ap (new_ids g) n)))
    (subst (λ l. LeadsToNew g l (edges_to parts (new_ids g (width parts)))) (sym (f ∙ (λ k. map (joins_reachable (same k) parts) (range_with_len 0 (n k))))) (leads_joined g parts of alike))

pub all_of : (g : List Segment) (parts : List Fork) → ((part : Fork) → Has parts part → AreOf g part.heads) → AreOf g (flat_map (λ part. part.heads) parts)
all_of g parts of id h = let r = has_flat_map (λ part. part.heads) parts id h in of r.0 r.1 id r.2

-- the edges of a loop, head by head
led_has : (from to : List ℕ) (x y : ℕ) → length from ≡ length to → Has (zip from to) (x, y) → (i : ℕ) × (i < length from) × (x ≡ get_or from i 0) × (y ≡ get_or to i 0)
led_has [] to x y n h = elim h [ ]
led_has (f ∷ from) [] x y n h = absurd (omega arith)
led_has (f ∷ from) (t ∷ to) x y n (inl e) = (0, omega arith, sym (ap (λ p. p.0) e), sym (ap (λ p. p.1) e))
led_has (f ∷ from) (t ∷ to) x y n (inr h) = let r = led_has from to x y (omega arith) h in let lt = r.1 in (suc r.0, omega arith, r.2, r.3)

pub led_from : (g : List Segment) (from to : List ℕ) → AreOf g from → length from ≡ length to → AreFrom g (zip from to)
led_from g from to of n edge h = let r = led_has from to edge.0 edge.1 n h in subst (IsOf g) (sym r.2) (of _ (Has-at from r.0 r.1))

pub led_graph : (graph : Parts) (from to : List ℕ) → AreOf graph.segments from → AreOf graph.segments to → length from ≡ length to → LeadsOn graph.segments from to
    → IsGraph graph → IsGraph (record graph { segments = connected graph.segments (zip from to) })
led_graph graph from to of of' n leads k =
    graph_led graph (zip from to) (led_from graph.segments from to of n)
    (λ x y h. let r = led_has from to x y n h in let lt = r.1 in subst (IsOf graph.segments) (sym r.3) (of' _ (Has-at to r.0 (omega arith))))
    (λ x y h q. let r = led_has from to x y n h in ap (λ i. (segment_at graph.segments i).reachable) r.3 ∙ leads r.0 r.1 (sym (ap (λ i. (segment_at graph.segments i).reachable) r.2) ∙ q)) k

-- the graphs after the calls
pub after_graph : (graph : Parts) (heads : List ℕ) → AreOf graph.segments heads → length graph.segments + length heads < 2 ^ 32 → IsGraph graph → IsGraph (record graph { segments = after graph.segments heads })
after_graph graph heads of few k =
    let n : length (flags graph.segments heads) ≡ length heads = length-map heads (λ head. (segment_at graph.segments head).reachable) in
    graph_made graph (flags graph.segments heads) _ (leads_after graph.segments heads of) k (omega arith)

pub joined_graph : (graph : Parts) (parts : List Fork) → ((part : Fork) → Has parts part → AreOf graph.segments part.heads) → AreAlike parts → length graph.segments + width parts < 2 ^ 32 → IsGraph graph
    → IsGraph (record graph { segments = joined graph.segments parts })
joined_graph graph parts of alike few k =
    let n = length-joined_flags graph.segments parts of alike in
    graph_made graph _ _ (leads_joined graph.segments parts of alike) k (omega arith)

pub unreachable_graph : (graph : Parts) → length graph.segments + 1 < 2 ^ 32 → IsGraph graph → IsGraph (record graph { segments = grown graph.segments (false ∷ []) })
unreachable_graph graph few k = graph_made graph (false ∷ []) [] (leads_nowhere graph.segments) k few
