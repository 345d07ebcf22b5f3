-- The copies of a part's labels, from those of its parts: all are few, or there is a first with too many.
use Rattle.std.proofs.Common.{◌≡◌, ℕ, ◌+◌, ◌*◌, ◌<◌, ◌≤◌, List, [], ◌∷◌, ◌++◌, inl, inr, length, take, drop, get_or, refl, sym, ◌∙◌, ap, subst, arith, append_assoc, Option, Some, None}
use Rattle.std.proofs.Math.Nat.{zero-mul, mul-zero}
use Rattle.std.proofs.lemmas.List.{take-append-drop}
use Rattle.es_fork.specs.declared.segment.Segment.{Segment}
use Rattle.es_fork.specs.declared.segment.Label.{Label}
use Rattle.es_fork.specs.Graphs.{Has}
use Rattle.es_skeleton.specs.declared.completion.Completion.{Completion}
use Rattle.es_skeleton.specs.declared.completion.Completion.TheVariants.{Normal}
use Rattle.es_skeleton.specs.declared.fault.SkeletonFault.{SkeletonFault}
use Rattle.es_skeleton.specs.declared.fault.SkeletonFault.TheVariants.{TooWide, NoMemory}
use Rattle.es_skeleton.specs.declared.skeleton.Skeleton.{Skeleton}
use Rattle.es_skeleton.specs.Controls.{Control, Emit, Exit, Catch, Choice, Loop, Finally}
use Rattle.es_skeleton.specs.Shapes.{entry_of, then_from, then, shape, onto}
use Rattle.es_skeleton.specs.Copies.{AreEnds, Copies, AreFew, IsFirstPast, HasFewCopies, IsTooWide}
use Rattle.es_skeleton.specs.Copies as copy
use Rattle.es_skeleton.specs.declared.pending.Pending.{Pending}
use Rattle.es_skeleton.specs.Pendings.{AreAwaited, AwaitCount}
use Rattle.es_skeleton.specs.Built.{Built}
use Rattle.es_skeleton.proofs.AwaitedLemmas.{counted_none, counted_all, awaited_ends}
use Rattle.es_skeleton.proofs.EndsLemmas.{ends_of, are_ends, have_copies}
use Rattle.es_skeleton.proofs.ShapesLemmas.{part_step}
use Rattle.es_skeleton.proofs.StepsLemmas.{has_append}

few_append : (xs ys : List (Label × ℕ)) → AreFew xs → AreFew ys → AreFew (xs ++ ys)
few_append xs ys p q l n m = elim (has_append xs ys (l, n) m) [ inl a ↦ p l n a | inr b ↦ q l n b ]

past_first : (xs ys : List (Label × ℕ)) (l : Label) (n : ℕ) → IsFirstPast xs l n → IsFirstPast (xs ++ ys) l n
past_first xs ys l n p = record {
  before = p.before;
  after = p.after ++ ys;
  order = ap (λ zs. zs ++ ys) p.order ∙ append_assoc p.before ((l, n) ∷ p.after) ys;
  few = p.few;
  past = p.past;
}

past_second : (xs ys : List (Label × ℕ)) (l : Label) (n : ℕ) → AreFew xs → IsFirstPast ys l n → IsFirstPast (xs ++ ys) l n
past_second xs ys l n few p = record {
  before = xs ++ p.before;
  after = p.after;
  order = ap (λ zs. xs ++ zs) p.order ∙ sym (append_assoc xs p.before ((l, n) ∷ p.after));
  few = few_append xs p.before few p.few;
  past = p.past;
}

-- the copies of a whole are those of its two parts, one after the other
abbrev pub Joins : Control → ℕ → Control → ℕ → Control → ℕ → Type 0
Joins a n b m k j = (xs ys : List (Label × ℕ)) → Copies a n xs → Copies b m ys → Copies k j (xs ++ ys)

pub catch_joins : (c : Completion) (a b : Control) (n : ℕ) → Joins a n b n (Catch c a b) n
catch_joins c a b n xs ys x y = copy.catch x y

pub choice_joins : (a b : Control) (n : ℕ) → Joins a n b n (Choice a b) n
choice_joins a b n xs ys x y = copy.choice x y

pub both_few : (a b k : Control) (n m j : ℕ) → Joins a n b m k j → HasFewCopies a n → HasFewCopies b m → HasFewCopies k j
both_few a b k n m j joins p q = (p.0 ++ q.0, joins p.0 q.0 p.1 q.1, few_append p.0 q.0 p.2 q.2)

pub first_wide : (a b k : Control) (n m j : ℕ) (f : SkeletonFault) → Joins a n b m k j → IsTooWide a n f → IsTooWide k j f
first_wide a b k n m j (TooWide l c) joins w = let y = have_copies b m in (w.0 ++ y.0, joins w.0 y.0 w.1 y.1, past_first w.0 y.0 l c w.2)
first_wide a b k n m j NoMemory joins w = tt

pub second_wide : (a b k : Control) (n m j : ℕ) (f : SkeletonFault) → Joins a n b m k j → HasFewCopies a n → IsTooWide b m f → IsTooWide k j f
second_wide a b k n m j (TooWide l c) joins p w = (p.0 ++ w.0, joins p.0 w.0 p.1 w.1, past_second p.0 w.0 l c p.2 w.2)
second_wide a b k n m j NoMemory joins p w = tt

pub emit_few : (l : Label) (n : ℕ) → n ≤ 64 → HasFewCopies (Emit l) n
emit_few l n le = ((l, n) ∷ [], copy.emit, λ x m h. elim h [ inl e ↦ let q : n ≡ m = ap (λ p. p.1) e in omega arith | inr z ↦ absurd z ])

pub emit_wide : (l : Label) (n : ℕ) → 64 < n → IsTooWide (Emit l) n (TooWide l n)
emit_wide l n lt = ((l, n) ∷ [], copy.emit, record { before = []; after = []; order = refl; few = λ x m h. absurd h; past = lt })

pub exit_few : (c : Completion) (n : ℕ) → HasFewCopies (Exit c) n
exit_few c n = ([], copy.exit, λ x m h. absurd h)

pub loop_few : (a : Control) (n : ℕ) → HasFewCopies a n → HasFewCopies (Loop a) n
loop_few a n p = (p.0, copy.loop p.1, p.2)

pub loop_wide : (a : Control) (n : ℕ) (f : SkeletonFault) → IsTooWide a n f → IsTooWide (Loop a) n f
loop_wide a n (TooWide l c) w = (w.0, copy.loop w.1, w.2)
loop_wide a n NoMemory w = tt

zeros : {k : Control} {n : ℕ} {xs : List (Label × ℕ)} → Copies k n xs → n ≡ 0 → (l : Label) (m : ℕ) → Has xs (l, m) → m ≡ 0
zeros (copy.emit {n = n}) e l m h = elim h [ inl q ↦ let p : n ≡ m = ap (λ z. z.1) q in sym p ∙ e | inr z ↦ absurd z ]
zeros copy.exit e l m h = absurd h
zeros (copy.catch {xs = xs} {ys = ys} x y) e l m h = elim (has_append xs ys (l, m) h) [ inl a ↦ zeros x e l m a | inr b ↦ zeros y e l m b ]
zeros (copy.choice {xs = xs} {ys = ys} x y) e l m h = elim (has_append xs ys (l, m) h) [ inl a ↦ zeros x e l m a | inr b ↦ zeros y e l m b ]
zeros (copy.loop x) e l m h = zeros x e l m h
zeros (copy.finally {n = n} {ends = ends} {xs = xs} {ys = ys} x w y) e l m h = elim (has_append xs ys (l, m) h) [
  | inl a ↦ zeros x e l m a
  | inr b ↦ zeros y (ap (λ z. z * length ends) e ∙ zero-mul (length ends)) l m b
]

-- a finalizer that never runs has no copies
pub none_few : (k : Control) (n : ℕ) → n ≡ 0 → HasFewCopies k n
none_few k n e = let y = have_copies k n in (y.0, y.1, λ l m h. let z = zeros y.1 e l m h in omega arith)

-- the finalizer of a part has a copy for each completion with which heads wait after the part
pub finally_joins : (a b : Control) (n count product : ℕ) {g : List Segment} {at : ℕ} {g1 : List Segment} (ps all : List Pending) → Built a g at g1 ps → all ≡ ps → AwaitCount all count → product ≡ n * count → Joins a n b product (Finally a b) n
finally_joins a b n count product ps all made e w q xs ys x y =
    copy.finally x (awaited_ends made (subst (λ l. AreAwaited l w.0) e w.1)) (subst (λ m. Copies b m ys) (q ∙ ap (λ m. n * m) (sym w.2)) y)

pub never_few : (a b : Control) (n : ℕ) {g : List Segment} {at : ℕ} {g1 : List Segment} (ps : List Pending) → Built a g at g1 ps → ps ≡ [] → HasFewCopies a n → HasFewCopies (Finally a b) n
never_few a b n ps made e p =
    both_few a b (Finally a b) n 0 n (finally_joins a b n 0 0 ps [] made (sym e) ([], counted_all (counted_none []), refl) (sym (mul-zero n))) p (none_few b 0 refl)

pub body_wide : (a b : Control) (n : ℕ) (f : SkeletonFault) → IsTooWide a n f → IsTooWide (Finally a b) n f
body_wide a b n f w = first_wide a b (Finally a b) n (n * length (ends_of a)) n f (λ xs ys x y. copy.finally x (are_ends a) y) w

-- the members of a list, one after another
onto-append : (a : Control) (xs ys : List Skeleton) → onto a (xs ++ ys) ≡ onto (onto a xs) ys
onto-append a [] ys = refl
onto-append a (x ∷ xs) ys = onto-append (then x a (shape x)) xs ys

pub entry_few : (c : Completion) (a : Control) (n : ℕ) → HasFewCopies a n → HasFewCopies (Catch c a (Exit Normal)) n
entry_few c a n p = both_few a (Exit Normal) (Catch c a (Exit Normal)) n n n (catch_joins c a (Exit Normal) n) p (exit_few Normal n)

then_wide : (o : Option Completion) (a own : Control) (n : ℕ) (f : SkeletonFault) → IsTooWide a n f → IsTooWide (then_from o a own) n f
then_wide (Some c) a own n f w = first_wide a (Exit Normal) (Catch c a (Exit Normal)) n n n f (catch_joins c a (Exit Normal) n) w
then_wide None a own n f w = first_wide a own (Catch Normal a own) n n n f (catch_joins Normal a own n) w

rest_wide : (ks : List Skeleton) (a : Control) (n : ℕ) (f : SkeletonFault) → IsTooWide a n f → IsTooWide (onto a ks) n f
rest_wide [] a n f w = w
rest_wide (k ∷ ks) a n f w = rest_wide ks (then k a (shape k)) n f (then_wide (entry_of k) a (shape k) n f w)

module _ (ks : List Skeleton) (i : ℕ) (k : Skeleton) (lt : i < length ks) (e : k ≡ get_or ks i k) (n : ℕ) where
  pub part_few : entry_of k ≡ None → HasFewCopies (onto (Exit Normal) (take i ks)) n → HasFewCopies (shape k) n → HasFewCopies (onto (Exit Normal) (take (i + 1) ks)) n
  part_few free p q =
      subst (λ s. HasFewCopies s n) (sym (part_step ks i k lt e free))
      (both_few (onto (Exit Normal) (take i ks)) (shape k) _ n n n (catch_joins Normal (onto (Exit Normal) (take i ks)) (shape k) n) p q)

  pub part_wide : entry_of k ≡ None → HasFewCopies (onto (Exit Normal) (take i ks)) n → (f : SkeletonFault) → IsTooWide (shape k) n f → IsTooWide (onto (Exit Normal) ks) n f
  part_wide free p f w =
      subst (λ s. IsTooWide s n f) (sym (onto-append (Exit Normal) (take (i + 1) ks) (drop (i + 1) ks)) ∙ ap (onto (Exit Normal)) (take-append-drop (i + 1) ks))
      (rest_wide (drop (i + 1) ks) (onto (Exit Normal) (take (i + 1) ks)) n f
      (subst (λ s. IsTooWide s n f) (sym (part_step ks i k lt e free))
      (second_wide (onto (Exit Normal) (take i ks)) (shape k) (Catch Normal (onto (Exit Normal) (take i ks)) (shape k)) n n n f (catch_joins Normal (onto (Exit Normal) (take i ks)) (shape k) n) p w)))
