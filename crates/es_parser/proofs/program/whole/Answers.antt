use Rattle.std.proofs.Common.{◌∙◌, ap}
use Rattle.es_text.specs.Texts.{text_bytes}
use Rattle.es_tree.specs.declared.shape.Shape.{Shape, out-Shape}
use Rattle.es_parser.proofs.ProgramLemmas.{program_kind}
use Rattle.es_parser.proofs.program.whole.Goals as goal

pub returns-clause-finished : goal.returns-clause-finished
returns-clause-finished c = (
  ap (λ (shape : Shape). (out-Shape shape).kind) c.in_ok-node.ensures.program ∙ program_kind (text_bytes c.args.source.now) c.args.source_type c.args.items.children,
  c.in_ok-node.ensures.low,
)
