-- Forks of one head, and what the calls of a graph make with them.
use Rattle.std.proofs.Common.{◌≡◌, ℕ, zero, suc, ◌+◌, ◌<◌, ◌≤◌, ◌||◌, List, [], ◌∷◌, inl, inr, true, false, length, map, drop, get_or, refl, sym, ◌∙◌, ap, subst, arith, add-one, IsTrue}
use Rattle.std.proofs.Math.Seq.{drop-cons}
use Rattle.std.specs.List.{range_with_len}
use Rattle.es_fork.specs.declared.segment.Segment.{Segment}
use Rattle.es_fork.specs.declared.fork.Fork.{Fork}
use Rattle.es_fork.specs.Graphs.{Parts, segment_at, Has, IsOf, AreOf}
use Rattle.es_fork.specs.Forks.{IsFork, AreForks, AreAlike, LeadsOn}
use Rattle.es_fork.specs.Changes.{width, joined as fork_joined, joins_reachable, edges_to, new_ids, grown, connected}
use Rattle.es_skeleton.specs.Steps.{fork_of, next_number, some_reachable, edges_from, looped, join, unreachable, GoesOn, joined, alone, never}
use Rattle.es_skeleton.proofs.StepsLemmas.{looped_facts}

pub fork_is : (g : List Segment) (h : ℕ) → IsOf g h → IsFork g (h ∷ [])
fork_is g h of = record {
  some = omega arith;
  few = omega arith;
  distinct = (λ m. m, tt);
  within = λ id m. elim m [ inl e ↦ subst (IsOf g) e of | inr n ↦ absurd n ];
}

pub of_length : (g g' : List Segment) (h : ℕ) → length g' ≡ length g → IsOf g h → IsOf g' h
of_length g g' h e of = let a = of.from_one in let b = of.to_last in record { from_one = a; to_last = omega arith }

has_map : (hs : List ℕ) (part : Fork) → Has (map fork_of hs) part → (h : ℕ) × Has hs h × (fork_of h ≡ part)
has_map [] part m = absurd m
has_map (h ∷ hs) part (inl e) = (h, inl refl, e)
has_map (h ∷ hs) part (inr m) = let r = has_map hs part m in (r.0, inr r.1, r.2)

some_map : (hs : List ℕ) → 1 ≤ length hs → 1 ≤ length (map fork_of hs)
some_map [] le = absurd (omega arith)
some_map (h ∷ hs) le = omega arith

pub forks_are : (g : List Segment) (hs : List ℕ) → 1 ≤ length hs → AreOf g hs → AreForks g (map fork_of hs)
forks_are g hs le of = record {
  some = some_map hs le;
  forks = λ part m. let r = has_map hs part m in subst (λ p. IsFork g p.heads) r.2 (fork_is g r.0 (of r.0 r.1));
}

pub forks_width : (hs : List ℕ) → 1 ≤ length hs → width (map fork_of hs) ≡ 1
forks_width [] le = absurd (omega arith)
forks_width (h ∷ hs) le = refl

pub forks_alike : (hs : List ℕ) → 1 ≤ length hs → AreAlike (map fork_of hs)
forks_alike hs le part m = let r = has_map hs part m in sym (ap (λ p. length p.heads) r.2) ∙ sym (forks_width hs le)

any_forks : (g : List Segment) (hs : List ℕ) → joins_reachable g (map fork_of hs) 0 ≡ some_reachable g hs
any_forks g [] = refl
any_forks g (h ∷ hs) = ap (λ b. (segment_at g h).reachable || b) (any_forks g hs)

edges_forks : (hs : List ℕ) (n : ℕ) → edges_to (map fork_of hs) (n ∷ []) ≡ edges_from hs n
edges_forks [] n = refl
edges_forks (h ∷ hs) n = ap (λ l. (h, n) ∷ l) (edges_forks hs n)

one_id : (g : List Segment) → new_ids g 1 ≡ next_number g ∷ []
one_id g = ap (λ n. n ∷ []) (add-one (length g))

pub joined_forks : (g : List Segment) (hs : List ℕ) → 1 ≤ length hs → fork_joined g (map fork_of hs) ≡ join g hs
joined_forks g hs le =
    ap (λ n. connected (grown g (map (joins_reachable g (map fork_of hs)) (range_with_len 0 n))) (edges_to (map fork_of hs) (new_ids g n))) (forks_width hs le)
    ∙ ap (λ b. connected (grown g (b ∷ [])) (edges_to (map fork_of hs) (new_ids g 1))) (any_forks g hs)
    ∙ ap (λ ids. connected (grown g (some_reachable g hs ∷ [])) (edges_to (map fork_of hs) ids)) (one_id g)
    ∙ ap (connected (grown g (some_reachable g hs ∷ []))) (edges_forks hs (next_number g))

pub one_made : (g : List Segment) (parts : List Fork) (hs : List ℕ) (made : List ℕ) → parts ≡ map fork_of hs → 1 ≤ length hs → made ≡ new_ids g (width parts) → made ≡ next_number g ∷ []
one_made g parts hs made e le m = m ∙ ap (λ ps. new_ids g (width ps)) e ∙ ap (new_ids g) (forks_width hs le) ∙ one_id g

pub leads_fork : (g : List Segment) (h t : ℕ) → (IsTrue (segment_at g h).reachable → IsTrue (segment_at g t).reachable) → LeadsOn g (h ∷ []) (t ∷ [])
leads_fork g h t f zero lt r = f r
leads_fork g h t f (suc index) lt r = absurd (omega arith)

pub drop_all : {A : Type 0} (xs : List A) (i : ℕ) → length xs ≤ i → drop i xs ≡ []
drop_all [] zero le = refl
drop_all [] (suc i) le = refl
drop_all (x ∷ xs) zero le = absurd (omega arith)
drop_all (x ∷ xs) (suc i) le = drop_all xs i (omega arith)

-- one edge of a loop after another
pub looped_more : (g : List Segment) (hs : List ℕ) (i h to : ℕ) → i < length hs → h ≡ get_or hs i h → looped (looped g (h ∷ []) to) (drop (i + 1) hs) to ≡ looped g (drop i hs) to
looped_more g hs i h to lt e =
    let d : drop i hs ≡ h ∷ drop (i + 1) hs = drop-cons hs i h lt ∙ ap (λ n. get_or hs i h ∷ drop n hs) (sym (add-one i)) ∙ ap (λ x. x ∷ drop (i + 1) hs) (sym e) in
    sym (ap (λ l. looped g l to) d)

is_empty : (hs : List ℕ) → length hs < 1 → hs ≡ []
is_empty [] lt = refl
is_empty (h ∷ hs) lt = absurd (omega arith)

is_one : (hs : List ℕ) (d : ℕ) → 1 ≤ length hs → length hs < 2 → hs ≡ get_or hs 0 d ∷ []
is_one [] d le lt = absurd (omega arith)
is_one (h ∷ []) d le lt = refl
is_one (h ∷ k ∷ hs) d le lt = absurd (omega arith)

is_more : (hs : List ℕ) → 1 ≤ length hs → (h : ℕ) × (ks : List ℕ) × (hs ≡ h ∷ ks)
is_more [] le = absurd (omega arith)
is_more (h ∷ hs) le = (h, hs, refl)

module _ (hs : List ℕ) (g m : Parts) where
  pub go_never : (h : ℕ) → length hs < 1 → h ≡ next_number g.segments → m ≡ record g { segments = unreachable g.segments } → GoesOn hs g.segments m.segments h false
  go_never h lt q w =
      subst (λ k. GoesOn hs g.segments m.segments k false) (sym q)
      (subst (λ k. GoesOn hs g.segments k (next_number g.segments) false) (sym (ap (λ r. r.segments) w)) (never (is_empty hs lt)))

  pub go_alone : (h : ℕ) → 1 ≤ length hs → length hs < 2 → h ≡ get_or hs 0 h → GoesOn hs g.segments g.segments h true
  go_alone h le lt e = alone (is_one hs h le lt ∙ ap (λ x. x ∷ []) (sym e))

  pub go_joined : (h : ℕ) → 1 ≤ length hs → h ≡ next_number g.segments → m ≡ record g { segments = join g.segments hs } → GoesOn hs g.segments m.segments h true
  go_joined h le q w =
      let x = is_more hs le in
      subst (λ k. GoesOn hs g.segments m.segments k true) (sym q)
      (subst (λ k. GoesOn hs g.segments k (next_number g.segments) true) (sym (ap (λ r. r.segments) w)) (joined x.2))

-- a turn of the loop that leads heads back
pub looped_step : (first old new : Parts) (hs : List ℕ) (i h to : ℕ) → i < length hs → h ≡ get_or hs i h → new ≡ record old { segments = looped old.segments (h ∷ []) to }
    → (record old { segments = looped old.segments (drop i hs) to }) ≡ record first { segments = looped first.segments hs to }
    → (record new { segments = looped new.segments (drop (i + 1) hs) to }) ≡ record first { segments = looped first.segments hs to }
looped_step first old new hs i h to lt e n w =
    (λ k. record (n k) { segments = looped (n k).segments (drop (i + 1) hs) to }) ∙ ap {A = List Segment} (λ s. record old { segments = s }) (looped_more old.segments hs i h to lt e) ∙ w

pub looped_count : (old new : Parts) (h to : ℕ) → IsOf old.segments h → new ≡ record old { segments = looped old.segments (h ∷ []) to } → length new.segments ≡ length old.segments
looped_count old new h to of n =
    let f = (looped_facts (h ∷ []) old.segments to (λ x m. elim m [ inl e ↦ subst (IsOf old.segments) e of | inr z ↦ absurd z ])).len in
    let q : length (looped old.segments (h ∷ []) to) ≡ length old.segments = omega arith in
    ap (λ w. length w.segments) n ∙ q

pub looped_reach : (old new : Parts) (h to : ℕ) → IsOf old.segments h → new ≡ record old { segments = looped old.segments (h ∷ []) to } → (x : ℕ) → (segment_at new.segments x).reachable ≡ (segment_at old.segments x).reachable
looped_reach old new h to of n x =
    let f = looped_facts (h ∷ []) old.segments to (λ x m. elim m [ inl e ↦ subst (IsOf old.segments) e of | inr z ↦ absurd z ]) in
    ap (λ w. (segment_at w.segments x).reachable) n ∙ f.live x
