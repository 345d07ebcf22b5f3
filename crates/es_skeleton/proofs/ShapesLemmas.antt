-- The shapes of lists of skeletons, how large they are, and their labels.
use mathlib.Core.Former.{Count}
use Rattle.std.proofs.Common.{Vec, Global, ◌≡◌, ℕ, zero, suc, take, ◌-◌, ◌*◌, ◌+◌, ◌<◌, ◌≤◌, List, [], ◌∷◌, ◌++◌, length, get_or, refl, sym, ◌∙◌, ap, arith, Some, None}
use Rattle.std.proofs.lemmas.List.{take_more}
use Rattle.es_fork.specs.declared.segment.Segment.{Segment}
use Rattle.es_fork.specs.declared.segment.Label.{Label}
use Rattle.es_fork.specs.Changes.{labelled_at}
use Rattle.es_skeleton.specs.declared.completion.Completion.{Completion}
use Rattle.es_skeleton.specs.declared.completion.Completion.TheVariants.{Normal}
use Rattle.es_skeleton.specs.declared.skeleton.Skeleton.{Skeleton, Row_of-Skeleton, end_of-Skeleton, more_of-Skeleton, items-the_row-Skeleton, items_hidden-the_row-Skeleton-0}
use Rattle.es_skeleton.specs.declared.skeleton.Skeleton.TheVariants.{Seq, Emit as EmitV, Exit as ExitV, Entry, Catch', Choice', Loop', Finally', Seq'}
use Rattle.es_skeleton.specs.Controls.{Control, Emit, Exit, Catch, Choice, Loop, Finally}
use Rattle.es_skeleton.specs.Shapes.{entry_of, then_from, then, shape, shape_row, onto}
use Rattle.es_skeleton.specs.Steps.{said}
use Rattle.es_skeleton.specs.Built.{weight, labels_of}

onto-push : (a : Control) (ks : List Skeleton) (k : Skeleton) → onto a (ks ++ k ∷ []) ≡ then k (onto a ks) (shape k)
onto-push a [] k = refl
onto-push a (j ∷ ks) k = onto-push (then j a (shape j)) ks k

pub seq_step : (a : Control) (ks : List Skeleton) (i : ℕ) (d : Skeleton) → i < length ks
    → onto a (take (i + 1) ks) ≡ then (get_or ks i d) (onto a (take i ks)) (shape (get_or ks i d))
seq_step a ks i d lt = ap (onto a) (take_more ks i d lt) ∙ onto-push a (take i ks) (get_or ks i d)

pub then_weight : (k : Skeleton) (a : Control) → weight (then k a (shape k)) ≡ 1 + weight a + weight (shape k)
then_weight (EmitV l) a = refl
then_weight (ExitV c) a = refl
then_weight (Catch' c p x q y) a = refl
then_weight (Choice' p x q y) a = refl
then_weight (Loop' p x) a = refl
then_weight (Finally' p x q y) a = refl
then_weight (Seq' s row) a = refl
then_weight (Entry c) a = refl

pub then_labels : (k : Skeleton) (a : Control) → labels_of (then k a (shape k)) ≡ labels_of a ++ labels_of (shape k)
then_labels (EmitV l) a = refl
then_labels (ExitV c) a = refl
then_labels (Catch' c p x q y) a = refl
then_labels (Choice' p x q y) a = refl
then_labels (Loop' p x) a = refl
then_labels (Finally' p x q y) a = refl
then_labels (Seq' s row) a = refl
then_labels (Entry c) a = refl

heavier : (a : Control) (ks : List Skeleton) → weight a ≤ weight (onto a ks)
heavier a [] = omega arith
heavier a (k ∷ ks) = let h = heavier (then k a (shape k)) ks in let w = then_weight k a in omega arith

part_light : (a : Control) (ks : List Skeleton) (i : ℕ) (d : Skeleton) → i < length ks → weight a + weight (shape (get_or ks i d)) < weight (onto a ks)
part_light a [] i d lt = absurd (omega arith)
part_light a (k ∷ ks) zero d lt = let h = heavier (then k a (shape k)) ks in let w = then_weight k a in omega arith
part_light a (k ∷ ks) (suc i) d lt = let r = part_light (then k a (shape k)) ks i d (omega arith) in let w = then_weight k a in omega arith

pub part_lighter : (ks : List Skeleton) (i : ℕ) (k : Skeleton) → i < length ks → k ≡ get_or ks i k → 2 * weight (shape k) < 2 * weight (onto (Exit Normal) ks) - 1
part_lighter ks i k lt e = let r = part_light (Exit Normal) ks i k lt in let q = ap (λ n. weight (shape n)) e in omega arith

pub weighs : (k : Control) → 0 < weight k
weighs (Emit l) = omega arith
weighs (Exit c) = omega arith
weighs (Catch c a b) = omega arith
weighs (Choice a b) = omega arith
weighs (Loop a) = omega arith
weighs (Finally a b) = omega arith

row_seq : (n : _) (row : Row_of-Skeleton n) (a : Control) → shape_row row a ≡ onto a (items-the_row-Skeleton n row)
row_seq n end_of-Skeleton a = refl
row_seq n (more_of-Skeleton k rest) a = row_seq _ rest (then k a (shape k))

abbrev row_of : Skeleton → (n : Count) × Row_of-Skeleton n
row_of (Seq' _ row) = (_, row)
row_of _ = (_, end_of-Skeleton)

pub shape_seq : (v : Vec Skeleton Global) → shape (Seq v) ≡ onto (Exit Normal) v.items
shape_seq v =
    let row = row_of (Seq v) in
    row_seq row.0 row.1 (Exit Normal) ∙ ap (onto (Exit Normal)) (items_hidden-the_row-Skeleton-0 v)

pub said-append : (g : List Segment) (at : ℕ) (xs ys : List Label) → said g at (xs ++ ys) ≡ said (said g at xs) at ys
said-append g at [] ys = refl
said-append g at (x ∷ xs) ys = said-append (labelled_at g at x) at xs ys

member_step : (ks : List Skeleton) (i : ℕ) (k : Skeleton) → i < length ks → k ≡ get_or ks i k → onto (Exit Normal) (take (i + 1) ks) ≡ then k (onto (Exit Normal) (take i ks)) (shape k)
member_step ks i k lt e = seq_step (Exit Normal) ks i k lt ∙ ap (λ j. then j (onto (Exit Normal) (take i ks)) (shape j)) (sym e)

pub part_step : (ks : List Skeleton) (i : ℕ) (k : Skeleton) → i < length ks → k ≡ get_or ks i k → entry_of k ≡ None → onto (Exit Normal) (take (i + 1) ks) ≡ Catch Normal (onto (Exit Normal) (take i ks)) (shape k)
part_step ks i k lt e n = member_step ks i k lt e ∙ ap (λ o. then_from o (onto (Exit Normal) (take i ks)) (shape k)) n

pub entry_step : (ks : List Skeleton) (i : ℕ) (k : Skeleton) (c : Completion) → i < length ks → k ≡ get_or ks i k → entry_of k ≡ Some c → onto (Exit Normal) (take (i + 1) ks) ≡ Catch c (onto (Exit Normal) (take i ks)) (Exit Normal)
entry_step ks i k c lt e n = member_step ks i k lt e ∙ ap (λ o. then_from o (onto (Exit Normal) (take i ks)) (shape k)) n
