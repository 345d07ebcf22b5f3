use Rattle.std.proofs.Common.{◌≡◌, ◌∙◌, sym, true, rules}
use Rattle.es_early.specs.Defaults.{is_default}
use Rattle.es_early.proofs.DefaultsLemmas.{second-default}
use Rattle.es_early.proofs.defaults.is_second_default.Goals as goal

pub returns-in-Some : goal.returns-in-Some
returns-in-Some c =
    let this : is_default c.args.tree.now c.args.node ≡ true = search rules in
    let both = second-default c.args.tree.now c.args.firsts.now c.args.node c.in-Some.switch c.requires this (sym c.in-Some.ensures.parent) in
    (λ is. both.0 (sym c.was_noted_before.ensures ∙ is), λ second. c.was_noted_before.ensures ∙ both.1 second)
