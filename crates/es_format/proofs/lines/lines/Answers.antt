use Rattle.std.proofs.Common.{arith}
use Rattle.std.proofs.lemmas.Grind.{common_steps}
use Rattle.es_format.specs.Stylish.{message_line}
use Rattle.es_format.proofs.StylishLemmas.{encodes-flat_map-step}
use Rattle.es_format.proofs.lines.lines.Goals as goal

pub loop-message-preserved : goal.loop-message-preserved
loop-message-preserved c =
    let widths = c.in_ok-widths.widths in
    let step = encodes-flat_map-step (message_line widths.place widths.severity widths.text) c.args.messages.now c.loop-message.message-index c.message-item.result c.loop-message-test.true in
    grind (arith, common_steps, step, c.in_ok-line.ensures)
