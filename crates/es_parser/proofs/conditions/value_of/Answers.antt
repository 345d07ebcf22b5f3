use Rattle.std.proofs.Common.{◌∙◌, Option, ap, sym}
use Rattle.std.specs.Prelude.{option_copied, option_map}
use Rattle.es_tree.specs.declared.shape.SetAttribute.{SetAttribute}
use Rattle.es_parser.proofs.ConditionsLemmas.{value_found}
use Rattle.es_parser.proofs.conditions.value_of.Goals as goal

pub returns-in-Some : goal.returns-in-Some
returns-in-Some c =
    sym (value_found c.args.field c.args.attributes.now
    ∙ ap (λ (o : Option SetAttribute). option_map (λ given. given.value) o) (sym c.first_with.ensures ∙ ap option_copied c.in-Some.is))

pub returns-in-None : goal.returns-in-None
returns-in-None c =
    sym (value_found c.args.field c.args.attributes.now
    ∙ ap (λ (o : Option SetAttribute). option_map (λ given. given.value) o) (sym c.first_with.ensures ∙ ap option_copied c.in-None.is))
