-- How often each label stands in the graph for finalizers: once for each completion that may wait
-- for the end of each finalizer that holds it.
use Rattle.std.specs.Prelude.{◌≡◌, ℕ, ◌*◌, ◌<◌, ◌≤◌, List, [], ◌∷◌, ◌++◌, length, ◌↔◌}
use Rattle.es_fork.specs.declared.segment.Label.{Label}
use Rattle.es_fork.specs.Graphs.{Has, IsDistinct}
use Rattle.es_skeleton.specs.declared.completion.Completion.{Completion}
use Rattle.es_skeleton.specs.declared.fault.SkeletonFault.{SkeletonFault}
use Rattle.es_skeleton.specs.declared.fault.SkeletonFault.TheVariants.{TooWide, NoMemory}
use Rattle.es_skeleton.specs.Controls.{Control, Emit, Exit, Catch, Choice, Loop, Finally}
use Rattle.es_skeleton.specs.Runs.{Run}

-- the completions of the skeleton's runs, each once
pub record AreEnds (k : Control) (ends : List Completion) : Type 0 where
  pub distinct : IsDistinct ends
  pub all : (c : Completion) → Has ends c ↔ ((trace : List Label) × Run k trace c)

-- the labels of the skeleton in their order, each with its copies, where what is around has so many
pub data Copies : Control → ℕ → List (Label × ℕ) → Type 0 where
  emit : {l : Label} {n : ℕ} → Copies (Emit l) n ((l, n) ∷ [])
  exit : {c : Completion} {n : ℕ} → Copies (Exit c) n []
  catch : {c : Completion} {a b : Control} {n : ℕ} {xs ys : List (Label × ℕ)}
      → Copies a n xs → Copies b n ys → Copies (Catch c a b) n (xs ++ ys)
  choice : {a b : Control} {n : ℕ} {xs ys : List (Label × ℕ)}
      → Copies a n xs → Copies b n ys → Copies (Choice a b) n (xs ++ ys)
  loop : {a : Control} {n : ℕ} {xs : List (Label × ℕ)} → Copies a n xs → Copies (Loop a) n xs
  finally : {a b : Control} {n : ℕ} {ends : List Completion} {xs ys : List (Label × ℕ)}
      → Copies a n xs → AreEnds a ends → Copies b (n * length ends) ys
      → Copies (Finally a b) n (xs ++ ys)

-- the most copies of a label
abbrev pub most_copies : ℕ
most_copies = 64

-- the copies of what stands in no finalizer
abbrev pub one_copy : ℕ
one_copy = 1

-- no label has more than the most
abbrev pub AreFew : List (Label × ℕ) → Type 0
AreFew xs = (l : Label) (n : ℕ) → Has xs (l, n) → n ≤ most_copies

-- the first label that has more than the most, and how many
pub record IsFirstPast (xs : List (Label × ℕ)) (l : Label) (n : ℕ) : Type 0 where
  pub before : List (Label × ℕ)
  pub after : List (Label × ℕ)
  pub order : xs ≡ before ++ (l, n) ∷ after
  pub few : AreFew before
  pub past : most_copies < n

-- no label of the skeleton has more than the most copies, where what is around has so many
abbrev pub HasFewCopies : Control → ℕ → Type 0
HasFewCopies k n = (xs : List (Label × ℕ)) × Copies k n xs × AreFew xs

-- the first label with too many copies, and their number; or want of memory, which has no cause
abbrev pub IsTooWide : Control → ℕ → SkeletonFault → Type 0
IsTooWide k n (TooWide label copies) =
    (xs : List (Label × ℕ)) × Copies k n xs × IsFirstPast xs label copies
IsTooWide k n NoMemory = Unit {0}

-- a skeleton has one list of copies
abbrev pub CountsOnce : Type 0
CountsOnce = (k : Control) → (xs : List (Label × ℕ)) × Copies k one_copy xs
    × ((ys : List (Label × ℕ)) → Copies k one_copy ys → ys ≡ xs)
