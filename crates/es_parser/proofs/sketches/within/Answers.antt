use Rattle.std.proofs.Common.{subst, sym}
use Rattle.es_parser.specs.Sketches.{MakesLow}
use Rattle.es_parser.proofs.ReadingLemmas.{if_ok}
use Rattle.es_parser.proofs.SketchesLemmas.{node_makes, parts_make}
use Rattle.es_parser.proofs.sketches.within.Goals as goal

pub returns-in-Parts : goal.returns-in-Parts
returns-in-Parts c = subst (λ makes. MakesLow makes c.args.limit c.args.limit) (sym c.in-Parts.is) (parts_make c.args.limit)

pub returns-in-Node : goal.returns-in-Node
returns-in-Node c =
    if_ok _ _ c.lower.result (λ inner is. subst (λ makes. MakesLow makes inner c.args.limit) (sym c.in-Node.is)
    (node_makes c.heights.ensures.bare c.heights.ensures.attribute c.heights.ensures.within c.in-Node.field-0 inner c.args.limit is.below is.some is.high)) c.lower.ensures
