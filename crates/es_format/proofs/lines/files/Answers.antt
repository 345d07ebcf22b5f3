use Rattle.std.proofs.Common.{arith}
use Rattle.std.proofs.lemmas.Grind.{common_steps}
use Rattle.es_format.specs.Stylish.{Named, file_text}
use Rattle.es_format.proofs.StylishLemmas.{encodes-flat_map-step}
use Rattle.es_format.proofs.lines.files.Goals as goal

pub loop-named-preserved : goal.loop-named-preserved
loop-named-preserved c =
    let step = encodes-flat_map-step (λ (n : Named). file_text n.0 n.1.messages) c.args.results.now c.loop-named.named-index c.named-item.result c.loop-named-test.true in
    grind (arith, common_steps, step, c.in_ok-part.ensures)
