use Rattle.std.proofs.Common.{◌≡◌, ◌∷◌, ◌∙◌, ap, sym, arith, true, false}
use Rattle.std.specs.Option.{option_map}
use Rattle.std.proofs.lemmas.Bool.Decides.{nat_tests}
use Rattle.es_text.specs.Characters.{is_letter_b, is_letter_o, is_letter_x, zero_digit}
use Rattle.es_text.specs.Numbers.{nondecimal_literal}
use Rattle.es_lexer.specs.Cursors.{rest_of}
use Rattle.es_lexer.proofs.NumberLemmas.{nondecimal_b, nondecimal_end, nondecimal_o, nondecimal_other, nondecimal_x}
use Rattle.es_lexer.proofs.number.nondecimal_end.Goals as goal

pub returns-in_err-c-clause-value : goal.returns-in_err-c-clause-value
returns-in_err-c-clause-value c =
    ap (option_map rest_of) c.from_residual.ensures ∙ nondecimal_end (rest_of c.args.start) c.in_err-c.ensures.end

pub returns-in-x-clause-value : goal.returns-in-x-clause-value
returns-in-x-clause-value c =
    let letter : is_letter_x c.in_ok-c.c ≡ true = grind (arith, nat_tests) in
    c.based_end.ensures.value
    ∙ sym (ap (λ cs. nondecimal_literal (zero_digit ∷ cs)) c.in_ok-c.ensures.step.here ∙ nondecimal_x c.in_ok-c.c _ letter)

pub returns-in-o-clause-value : goal.returns-in-o-clause-value
returns-in-o-clause-value c =
    let letter : is_letter_o c.in_ok-c.c ≡ true = grind (arith, nat_tests) in
    c.based_end-in-o.ensures.value
    ∙ sym (ap (λ cs. nondecimal_literal (zero_digit ∷ cs)) c.in_ok-c.ensures.step.here ∙ nondecimal_o c.in_ok-c.c _ letter)

pub returns-in-b-clause-value : goal.returns-in-b-clause-value
returns-in-b-clause-value c =
    let letter : is_letter_b c.in_ok-c.c ≡ true = grind (arith, nat_tests) in
    c.based_end-in-b.ensures.value
    ∙ sym (ap (λ cs. nondecimal_literal (zero_digit ∷ cs)) c.in_ok-c.ensures.step.here ∙ nondecimal_b c.in_ok-c.c _ letter)

pub returns-in_default-clause-value : goal.returns-in_default-clause-value
returns-in_default-clause-value c =
    let x : is_letter_x c.in_ok-c.c ≡ false = grind (arith, nat_tests) in
    let o : is_letter_o c.in_ok-c.c ≡ false = grind (arith, nat_tests) in
    let b : is_letter_b c.in_ok-c.c ≡ false = grind (arith, nat_tests) in
    nondecimal_other (rest_of c.args.start) _ c.in_ok-c.c c.in_ok-c.ensures.step.here x o b
