use Rattle.std.proofs.Common.{arith}
use Rattle.std.proofs.lemmas.Grind.{common_steps}
use Rattle.es_format.proofs.StylishLemmas.{encodes-told}
use Rattle.es_format.proofs.lines.told.Goals as goal

pub returns-in_ok-format-in-Some : goal.returns-in_ok-format-in-Some
returns-in_ok-format-in-Some c =
    let message = c.args.message.now in
    grind (arith, common_steps, c.in_ok-format-in-Some.ensures.ok, c.in_ok-text-in-Some.ensures, c.as_str-in-Some.ensures.characters, c.as_str-rule.ensures.bytes, encodes-told c.args.width message.text message.rule c.in-Some.rule c.in-Some.is)
