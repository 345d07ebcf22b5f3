use Rattle.std.proofs.Common.{◌≡◌, ◌∙◌, true, ap}
use Rattle.es_grammar.specs.declared.draft.Draft.{Draft}
use Rattle.es_grammar.specs.Trees.{is_low}
use Rattle.es_grammar.specs.Parts.{greatest_height}
use Rattle.es_parser.proofs.HeightLemmas.{lower_joined}
use Rattle.es_parser.proofs.ReadingLemmas.{if_ok}
use Rattle.es_parser.proofs.program.with_item.Goals as goal

pub returns-clause-low : goal.returns-clause-low
returns-clause-low c =
    if_ok _ _ c.join.result
    (λ all is. ap (λ (one : Draft). is_low one) is ∙ lower_joined greatest_height c.args.items.children c.args.item.children c.requires.items c.requires.item) c.join.ensures
