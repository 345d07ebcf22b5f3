use Rattle.std.proofs.Common.{◌≡◌, ◌++◌}
use Rattle.std.specs.Prelude.{encode_utf8}
use Rattle.std.proofs.lemmas.Str.{chars_past_char}
use Rattle.es_globs.proofs.part.split_first.Goals as goal

pub returns-clause-some : goal.returns-clause-some
returns-clause-some c =
    let step = c.in_ok-first.ensures.steps.0 in
    let all : c.args.text.now ≡ encode_utf8 c.in_ok-first.first ++ c.as_str.result.now = cc in
    chars_past_char c.args.text.now c.as_str.result.now c.in_ok-first.first c.utf8.text all
