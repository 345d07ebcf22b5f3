use Rattle.std.proofs.Common.{◌≡◌, ◌∙◌, ap, arith, true, false}
use Rattle.std.specs.Prelude.{◌==◌}
use Rattle.std.specs.Option.{option_map}
use Rattle.std.proofs.lemmas.Bool.Decides.{nat_tests}
use Rattle.es_text.specs.Characters.{full_stop, is_decimal, is_nonzero}
use Rattle.es_lexer.specs.Cursors.{rest_of}
use Rattle.es_lexer.specs.Integers.{after_integer}
use Rattle.es_lexer.proofs.NumberLemmas.{literal_none, literal_nonzero, literal_other, literal_point}
use Rattle.es_lexer.proofs.number.literal_end.Goals as goal

pub returns-in_err-c-clause-value : goal.returns-in_err-c-clause-value
returns-in_err-c-clause-value c = ap (option_map rest_of) c.from_residual.ensures ∙ literal_none (rest_of c.args.start) c.in_err-c.ensures.end

pub returns-in-46-clause-value : goal.returns-in-46-clause-value
returns-in-46-clause-value c =
    c.point_end.ensures.value ∙ literal_point (rest_of c.args.start) _ c.in_ok-c.c c.in_ok-c.ensures.step.here c.in-46.is

pub returns-in-1-to-9-clause-value : goal.returns-in-1-to-9-clause-value
returns-in-1-to-9-clause-value c =
    let nonzero : is_nonzero c.in_ok-c.c ≡ true = grind (arith, nat_tests) in
    c.whole_end.ensures.value
    ∙ ap after_integer c.past_further.ensures.value
    ∙ literal_nonzero (rest_of c.args.start) _ c.in_ok-c.c c.in_ok-c.ensures.step.here nonzero

pub returns-in_default-clause-value : goal.returns-in_default-clause-value
returns-in_default-clause-value c =
    let no_point : (c.in_ok-c.c == full_stop) ≡ false = grind (arith, nat_tests) in
    let other : is_decimal c.in_ok-c.c ≡ false = grind (arith, nat_tests) in
    literal_other (rest_of c.args.start) _ c.in_ok-c.c c.in_ok-c.ensures.step.here no_point other
