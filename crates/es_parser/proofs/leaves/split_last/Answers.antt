use Rattle.std.proofs.Common.{◌≡◌, ◌++◌, length}
use Rattle.std.specs.Prelude.{encode_utf8}
use Rattle.es_parser.proofs.CharsLemmas.{empty_chars, last_char, none_has}
use Rattle.es_parser.proofs.leaves.split_last.Goals as goal

pub returns-in_err-last-clause-none : goal.returns-in_err-last-clause-none
returns-in_err-last-clause-none c =
    let step = c.in_err-last.ensures.steps.0 in
    let none : length c.args.text.now ≡ 0 = cc in
    none_has c.from_residual.result (empty_chars c.args.text.now none)

pub returns-clause-some : goal.returns-clause-some
returns-clause-some c =
    let step = c.in_ok-last.ensures.steps in
    let all : c.args.text.now ≡ c.as_str.result.now ++ encode_utf8 c.in_ok-last.last = cc in
    last_char c.args.text.now c.as_str.result.now c.in_ok-last.last c.utf8.text c.as_str.utf8 all
