-- What holds at each place of a list.
use Rattle.std.proofs.Common.{ℕ, ◌<◌, List, length, replicate, slice_index_or, slice_set, inl, inr, sym, subst}
use Rattle.std.proofs.lemmas.Bool.{cases_eq}
use Rattle.std.proofs.lemmas.List.{get_or-set_same, get_or-set_other, get_or-replicate}

module _ {X : Type 0} (P : ℕ → X → Type 0) (d : X) where
  -- P holds at each of so many places
  abbrev pub HoldsAtEach : ℕ → List X → Type 0
  HoldsAtEach count xs = (place : ℕ) → place < count → P place (slice_index_or xs place d)

  pub holds_set : (count : ℕ) (xs : List X) (at : ℕ) (x : X) → at < length xs
      → HoldsAtEach count xs → P at x → HoldsAtEach count (slice_set xs at x)
  holds_set count xs at x there holds own place within =
      elim (cases_eq place at) [
        | inl same ↦ subst (λ i. P i (slice_index_or (slice_set xs at x) i d)) (sym same)
            (subst (P at) (sym (get_or-set_same xs at x d there)) own)
        | inr other ↦ subst (P place) (sym (get_or-set_other xs at place x d other)) (holds place within)
      ]

  pub holds_replicate : (count : ℕ) → ((place : ℕ) → place < count → P place d) → HoldsAtEach count (replicate count d)
  holds_replicate count holds place within = subst (P place) (sym (get_or-replicate count place d d within)) (holds place within)
