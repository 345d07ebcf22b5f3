-- The first kit of a run.
use Rattle.std.proofs.Common.{◌≡◌, ◌∙◌, ℕ, ◌≤◌, List, [], ◌∷◌, length, ap, refl, arith, slice_index_or, slice_set}
use Rattle.es_host.specs.Kits.{KitOf, meanings_of}
use Rattle.es_host.specs.Meanings.{Meaning}
use Rattle.es_lint.specs.Results.{AtMost, more}
use Rattle.es_run.specs.Courses.{counts}
use Rattle.es_run.specs.Kits.{HeardAtMost, first_heard, first_meanings, lints_of}
use Rattle.es_run.specs.Works.{kit_counts}

-- counts that never went up
pub never_heard : (most : ℕ) (before : List ℕ) → HeardAtMost most before before
never_heard most [] = record { times = 0; few = omega arith; first = refl }
never_heard most (count ∷ before) = record { times = 0; few = omega arith; first = refl }

module _ {R : Type 0} (old new : KitOf R) where
  -- what the rules of the first of the kits mean
  pub first_kit : (meaning : R → Meaning) (kits : List (KitOf R)) → 1 ≤ length kits → old ≡ slice_index_or kits 0 old →
      meanings_of meaning old ≡ first_meanings meaning kits
  first_kit meaning [] some is = absurd (omega (arith, some))
  first_kit meaning (first ∷ rest) some is = ap (meanings_of meaning) is

  -- the first kit listened so often more
  pub first_listened : (kits : List (KitOf R)) (times : ℕ) → 1 ≤ length kits → old ≡ slice_index_or kits 0 old →
      new.lints ≡ more times old.lints → lints_of (slice_set kits 0 new) ≡ first_heard times (lints_of kits)
  first_listened [] times some is lints = absurd (omega (arith, some))
  first_listened (first ∷ rest) times some is lints =
      ap (λ count. count ∷ lints_of rest) (lints ∙ ap (λ (kit : KitOf R). more times kit.lints) is)

  -- or so often at most
  pub first_at_most : (kits : List (KitOf R)) (most : ℕ) → 1 ≤ length kits → old ≡ slice_index_or kits 0 old →
      AtMost most old.lints new.lints → HeardAtMost most (lints_of kits) (lints_of (slice_set kits 0 new))
  first_at_most kits most some is at_most = record {
    times = at_most.heard;
    few = at_most.few;
    first = first_listened kits at_most.heard some is at_most.lints;
  }

  first_same : (kits : List (KitOf R)) → 1 ≤ length kits → old ≡ slice_index_or kits 0 old → new.lints ≡ old.lints →
      lints_of (slice_set kits 0 new) ≡ lints_of kits
  first_same [] some is same = absurd (omega (arith, some))
  first_same (first ∷ rest) some is same = ap (λ count. count ∷ lints_of rest) (same ∙ ap (λ (kit : KitOf R). kit.lints) is)

  -- or not at all, and no step was taken
  pub first_rests : (kits : List (KitOf R)) (steps steps' : ℕ) → 1 ≤ length kits → old ≡ slice_index_or kits 0 old →
      kit_counts new.lints steps' ≡ kit_counts old.lints steps →
      counts (lints_of (slice_set kits 0 new)) steps' ≡ counts (lints_of kits) steps
  first_rests kits steps steps' some is same =
      ap (λ lints. counts lints steps') (first_same kits some is (ap (λ c. c.lints) same))
      ∙ ap (counts (lints_of kits)) (ap (λ c. c.steps) same)
