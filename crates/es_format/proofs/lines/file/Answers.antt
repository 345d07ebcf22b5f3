use Rattle.std.proofs.Common.{◌<◌, length, arith, rules}
use Rattle.std.proofs.lemmas.Grind.{common_steps}
use Rattle.es_format.proofs.StylishLemmas.{encodes-file}
use Rattle.es_format.proofs.lines.file.Goals as goal

pub returns : goal.returns
returns c =
    let some : 0 < length c.args.messages.now = search rules in
    grind (arith, common_steps, c.in_ok-format.ensures.ok, c.in_ok-lines.ensures, c.as_str-name.ensures.bytes, encodes-file c.args.name.now c.args.messages.now some)
