use Rattle.std.proofs.Common.{rules, ◌≡◌, ◌∙◌, ap, subst, refl, sym, map, string_bytes, true, inl, inr}
use Rattle.clap.specs.Faults.{fault_of, is_simple_and_free}
use Rattle.clap.specs.Kinds.{Kinds, IsAmong}
use Rattle.clap.specs.Simple.{app_of, is_simple, matches_of}
use Rattle.es_plan.specs.Command.{command}
use Rattle.es_plan.proofs.reading.taken.Goals as goal

free : is_simple_and_free command ≡ true
unfolding command
free = refl

simple : is_simple command ≡ true
unfolding command
simple = refl

pub returns-in-Ok-try_get_matches_from-clause-ok : goal.returns-in-Ok-try_get_matches_from-clause-ok
returns-in-Ok-try_get_matches_from-clause-ok c =
    let is : app_of c.in-Ok.command ≡ command = c.in-Ok.ensures in
    let ws = map string_bytes c.args.words.now in
    let m = c.in-Ok-try_get_matches_from.ensures in (
      sym (ap (λ a. fault_of a ws) is) ∙ m.kinds (ap is_simple_and_free is ∙ free),
      (m.matches (ap is_simple is ∙ simple)).0 ∙ ap (λ a. matches_of a ws) is,
    )

pub returns-clause-fault : goal.returns-clause-fault
returns-clause-fault c =
    let is : app_of c.in-Ok.command ≡ command = c.in-Ok.ensures in
    let ws = map string_bytes c.args.words.now in
    inr (
      refl,
      λ none.
          elim (c.in-Err.ensures.kinds (ap is_simple_and_free is ∙ free)) [
            | inl memory ↦ search (rules, memory)
            | inr among ↦
                let P : Kinds → Type 0 = λ k. IsAmong c.in-Err.error.kind k in
                subst P (ap (λ a. fault_of a ws) is ∙ none) among
          ],
    )
