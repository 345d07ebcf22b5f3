use Rattle.std.proofs.Common.{◌≡◌, map, sym, subst}
use Rattle.std.specs.Prelude.{Option}
use Rattle.es_grammar.specs.declared.part.Field.{Field}
use Rattle.es_grammar.specs.Parts.{placed}
use Rattle.es_parser.proofs.PlacesLemmas.{unplaced}
use Rattle.es_parser.proofs.drafts.place.Goals as goal

pub returns-in_default : goal.returns-in_default
returns-in_default c =
    subst (λ (field : Option Field). c.args.children ≡ map (placed field) c.args.children) (sym c.in_default.is) (unplaced c.args.children)
