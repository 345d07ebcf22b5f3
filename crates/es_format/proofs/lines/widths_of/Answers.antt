use Rattle.std.proofs.Common.{arith}
use Rattle.std.proofs.lemmas.Grind.{common_steps}
use Rattle.es_messages.specs.declared.message.Message.{Message}
use Rattle.es_format.proofs.StylishLemmas.{widest-step}
use Rattle.es_format.specs.Stylish.{place_text, severity_text}
use Rattle.es_format.proofs.lines.widths_of.Goals as goal

pub loop-message-preserved : goal.loop-message-preserved
loop-message-preserved c =
    let messages = c.args.messages.now in
    let i = c.loop-message.message-index in
    let item = c.message-item.result in
    let place_step = widest-step place_text messages i item c.loop-message-test.true in
    let severity_step = widest-step (λ (m : Message). severity_text m.severity) messages i item c.loop-message-test.true in
    let text_step = widest-step (λ (m : Message). m.text) messages i item c.loop-message-test.true in
    record {
      place = grind (arith, common_steps, place_step, c.in_ok-place.ensures);
      severity = grind (arith, common_steps, severity_step);
      text = grind (arith, common_steps, text_step);
    }
