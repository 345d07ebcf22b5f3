use Rattle.std.proofs.Common.{◌∙◌, sym}
use Rattle.es_parser.proofs.SketchesLemmas.{no_assignment}
use Rattle.es_parser.proofs.sketches.is_no_assignment.Goals as goal

pub returns-in-None-clause-so : goal.returns-in-None-clause-so
returns-in-None-clause-so g c = no_assignment c.in-AssignmentPattern.is (sym c.terminal_at.ensures.token ∙ c.in-None.is)
