use Rattle.std.proofs.Common.{arith}
use Rattle.std.proofs.lemmas.Grind.{common_steps}
use Rattle.es_format.proofs.StylishLemmas.{chars-severity, encodes-message_line}
use Rattle.es_format.proofs.lines.line.Goals as goal

pub returns : goal.returns
returns c =
    let message = c.args.message.now in
    grind (arith, common_steps, c.in_ok-format.ensures.ok, c.in_ok-place.ensures, c.in_ok-told.ensures, chars-severity message.severity, encodes-message_line c.args.widths.place c.args.widths.severity c.args.widths.text message)
