use Rattle.std.proofs.Common.{ℕ, sym, ap, ◌∙◌}
use Rattle.std.specs.FinMap as map
use Rattle.es_files.specs.Fakes.{next_failure}
use Rattle.es_files.specs.Seen.{numbers_of}
use Rattle.es_files.proofs.SeenLemmas.{get-numbers_of}
use Rattle.es_files.proofs.plan.Plan.next_call.Goals as goal

pub returns-clause-planned : goal.returns-clause-planned
returns-clause-planned c =
    let fails = c.self.inside.fails in
    let number : ℕ = c.saturating_add-self-inside.result in
    c.copied.ensures ∙ c.get.ensures.value ∙ sym (get-numbers_of fails number)
    ∙ ap (map.get (numbers_of fails.entries)) c.saturating_add-self-inside.ensures
    ∙ ap next_failure c.self.view_is
