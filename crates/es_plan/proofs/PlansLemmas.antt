-- Plans of words that `clap` takes, and of those that it refuses.
use Rattle.std.proofs.Common.{rules, ◌≡◌, ◌≢◌, ◌==◌, false, List, [], ◌∷◌, Err, refl, length, codes, sym}
use Rattle.clap.specs.Faults.{fault_of}
use Rattle.clap.specs.Kinds.{Kinds}
use Rattle.clap.specs.Simple.{matches_of}
use Rattle.clap.specs.Walk.{Row, Text, first_of}
use Rattle.es_plan.specs.Command.{command}
use Rattle.es_plan.specs.Plans.{plan_of}
use Rattle.es_plan.specs.Steps.{asked_by}
use Rattle.es_plan.proofs.StepsLemmas.{same_by}
use Rattle.es_plan.specs.declared.plan.PlanFault.TheVariants.{BadWords}

pub taken_words : (words : List Text) (found : List Row) → fault_of command words ≡ [] → found ≡ matches_of command words
    → plan_of words ≡ asked_by found
unfolding plan_of
taken_words words found none is = rw (none, ← is) (sym (same_by found (first_of (codes "generate") found)))

some_fault : (kinds : Kinds) → kinds ≢ [] → (length kinds == 0) ≡ false
some_fault [] some = absurd (some refl)
some_fault (kind ∷ kinds) some = search rules

pub refused_words : (words : List Text) → fault_of command words ≢ [] → plan_of words ≡ Err BadWords
unfolding plan_of
refused_words words some = rw (some_fault (fault_of command words) some) refl
