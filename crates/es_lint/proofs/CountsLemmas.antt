-- How often a kit listens.
use Rattle.std.proofs.Common.{◌≡◌, ◌∙◌, ℕ, zero, suc, ◌+◌, ◌≤◌, refl, sym, ap, subst, arith, inl, inr}
use Rattle.es_lint.specs.Results.{AtMost, more}
use Rattle.es_lint.specs.Stages.{AtMostOnce}

-- more and more again
pub more_more : (first then count : ℕ) → more then (more first count) ≡ more (first + then) count
more_more zero then count = let sum : then ≡ zero + then = omega arith in ap (λ n. more n count) sum
more_more (suc first) zero count = let sum : suc first ≡ suc first + zero = omega arith in ap (λ n. more n count) sum
more_more (suc first) (suc then) count =
    let sum : suc first + suc then ≡ suc (first + suc then) = omega arith in
    subst (λ n. more (suc then) (more (suc first) count) ≡ more n count) (sym sum) (omega arith)

-- once and then so often
pub at_most_then : (times later before between now : ℕ) → AtMost times before between → AtMost later between now → AtMost (times + later) before now
at_most_then times later before between now one other =
    let few : one.heard ≤ times = one.few in
    let few' : other.heard ≤ later = other.few in
    record {
      heard = one.heard + other.heard;
      few = omega (arith, few, few');
      lints = other.lints ∙ ap (more other.heard) one.lints ∙ more_more one.heard other.heard before;
    }

pub at_most_more : (times most before now : ℕ) → times ≤ most → AtMost times before now → AtMost most before now
at_most_more times most before now le one =
    let few : one.heard ≤ times = one.few in
    record { heard = one.heard; few = omega (arith, few, le); lints = one.lints }

pub from_once : (before now : ℕ) → AtMostOnce before now → AtMost 1 before now
from_once before now (inl is) = record { heard = 0; few = omega arith; lints = is }
from_once before now (inr is) = record { heard = 1; few = omega arith; lints = is }

pub never : (times count : ℕ) → AtMost times count count
never times count = record { heard = 0; few = omega arith; lints = refl }
