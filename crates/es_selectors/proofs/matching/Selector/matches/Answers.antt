use Rattle.std.proofs.Common.{ap, sym, ◌∙◌}
use Rattle.es_selectors.specs.declared.selector.Spelling.{Spelling}
use Rattle.es_selectors.specs.Chains.{any_in}
use Rattle.es_selectors.specs.Places.{matches}
use Rattle.es_selectors.specs.Selects.{selects, spot_of}
use Rattle.es_selectors.proofs.BelowLemmas.{matched_alike}
use Rattle.es_selectors.proofs.matching.Selector.matches.Goals as goal

pub returns-clause-selects : goal.returns-clause-selects
unfolding selects
returns-clause-selects c =
    c.any_holds.ensures ∙ ap (λ chains. any_in c.args.tree.now chains (spot_of 0 c.args.node)) (c.as_slice.ensures ∙ ap (λ (s : Spelling). s.chains) c.self.view_is)

pub returns-clause-matches : goal.returns-clause-matches
unfolding matches
returns-clause-matches c root path place rows is number =
    c.any_holds.ensures ∙ ap (λ chains. any_in c.args.tree.now chains (spot_of 0 c.args.node)) (c.as_slice.ensures ∙ ap (λ (s : Spelling). s.chains) c.self.view_is)
    ∙ sym (matched_alike root path place c.args.tree.now c.args.node c.args.self.now.chains rows is number)
