-- Lists of heads that wait, each with a completion.
use Rattle.std.specs.Prelude.{◌≡◌, ℕ, List, [], ◌∷◌, cond, ◌⊎◌, length, ◌↔◌}
use Rattle.es_fork.specs.Graphs.{Has, IsDistinct}
use Rattle.es_skeleton.specs.declared.completion.Completion.{Completion}
use Rattle.es_skeleton.specs.declared.pending.Pending.{Pending}
use Rattle.es_skeleton.specs.Completions.{same}

-- the head h waits with the completion c
abbrev pub Waits : List Pending → Completion → ℕ → Type 0
Waits [] c h = ⊥
Waits (p ∷ ps) c h = ((p.completion ≡ c) × (p.head ≡ h)) ⊎ Waits ps c h

-- the heads that wait with the completion c
abbrev pub heads : Completion → List Pending → List ℕ
heads c [] = []
heads c (p ∷ ps) = cond (same p.completion c) (p.head ∷ heads c ps) (heads c ps)

-- those that wait with another completion
abbrev pub others : Completion → List Pending → List Pending
others c [] = []
others c (p ∷ ps) = cond (same p.completion c) (others c ps) (p ∷ others c ps)

-- one that waits with c waits with d
abbrev pub becomes : Completion → Completion → Pending → Pending
becomes c d p = record { completion = cond (same p.completion c) d p.completion; head = p.head }

-- those that wait with c wait with d
abbrev pub recoded : Completion → Completion → List Pending → List Pending
recoded c d [] = []
recoded c d (p ∷ ps) = becomes c d p ∷ recoded c d ps

-- the completions with which heads wait, each once
pub record AreAwaited (ps : List Pending) (completions : List Completion) : Type 0 where
  pub distinct : IsDistinct completions
  pub all : (c : Completion) → Has completions c ↔ ((h : ℕ) × Waits ps c h)

-- with so many completions heads wait
abbrev pub AwaitCount : List Pending → ℕ → Type 0
AwaitCount ps count =
    (completions : List Completion) × AreAwaited ps completions × (length completions ≡ count)
