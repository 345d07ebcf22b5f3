use Rattle.std.proofs.Common.{arith}
use Rattle.std.proofs.lemmas.Grind.{common_steps}
use Rattle.std.proofs.lemmas.Str.{encodes-append}
use Rattle.es_format.specs.Stylish.{all_messages, end_text, files_text}
use Rattle.es_format.proofs.TalliesLemmas.{end-tallies}
use Rattle.es_format.proofs.lines.stylish.Goals as goal

pub returns : goal.returns
returns c =
    let results = c.args.results.now in
    grind (arith, common_steps, c.in_ok-push_str.ensures.bytes, c.in_ok-text.ensures, c.in_ok-end.ensures, c.in_ok-tallies.ensures, c.as_slice.ensures.value, c.as_str.ensures.value, end-tallies (all_messages results), encodes-append (files_text results) (end_text (all_messages results)))
