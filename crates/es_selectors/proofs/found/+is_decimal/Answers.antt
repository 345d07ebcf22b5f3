use Rattle.std.proofs.Common.{◌∙◌, sym, arith}
use Rattle.es_selectors.proofs.DecimalLemmas.{more_digits, no_digit, one_digit, other_digit}
use Rattle.es_selectors.proofs.found.+is_decimal.Goals as goal

pub returns-in_default : goal.returns-in_default
returns-in_default t c = no_digit c.args.number c.args.text.now (omega arith) c.in_default.ensures.cases

pub returns-then-from-number : goal.returns-then-from-number
returns-then-from-number t c =
    other_digit c.args.number c.args.text.now c.in-Some.front.now c.in-Some.last.now (omega arith) c.in-Some.ensures.cases.0
    (λ same. c.if-from-number.true (c.from.ensures ∙ same))

pub returns-then-number-lt10 : goal.returns-then-number-lt10
returns-then-number-lt10 t c =
    c.is_empty.ensures
    ∙ one_digit c.args.number c.args.text.now c.in-Some.front.now c.in-Some.last.now c.if-number-lt10.true c.in-Some.ensures.cases.0
    (sym c.from.ensures ∙ c.if-from-number.false)

pub returns-else-number-lt10 : goal.returns-else-number-lt10
returns-else-number-lt10 t c =
    c.is_decimal.ensures
    ∙ more_digits c.args.number c.args.text.now c.in-Some.front.now c.in-Some.last.now (omega arith) c.if-number-lt10.false c.in-Some.ensures.cases.0
    (sym c.from.ensures ∙ c.if-from-number.false)
