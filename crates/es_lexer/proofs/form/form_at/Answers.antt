use Rattle.std.proofs.Common.{◌∙◌, ap, sym, arith}
use Rattle.std.proofs.lemmas.Bool.Decides.{nat_tests}
use Rattle.es_text.specs.declared.token.TokenKind.TheVariants as kind
use Rattle.es_text.specs.Tokens.{of_kind}
use Rattle.es_lexer.specs.Cursors.{rest_of}
use Rattle.es_lexer.proofs.FormLemmas.{form_end, form_name, form_hash, form_quote, form_backtick, form_slash, form_brace, form_other}
use Rattle.es_lexer.proofs.form.form_at.Goals as goal

pub returns-in_default-clause-value : goal.returns-in_default-clause-value
returns-in_default-clause-value c = form_end c.args.mode (rest_of c.args.start) c.in_default.ensures.end

pub returns-then-is_start-clause-value : goal.returns-then-is_start-clause-value
returns-then-is_start-clause-value c =
    form_name c.args.mode c.in-Some.c _ (rest_of c.args.start) (rest_of c.past.result) c.in-Some.ensures.step.here (sym c.is_start.ensures ∙ c.if-is_start.true) c.past.ensures.value

pub returns-in-35-clause-value : goal.returns-in-35-clause-value
returns-in-35-clause-value c =
    c.of_kind.ensures.value
    ∙ ap (of_kind kind.Private) c.name_end.ensures.value
    ∙ form_hash c.args.mode c.in-Some.c _ (rest_of c.args.start) c.in-Some.ensures.step.here c.in-35.is (sym c.is_start.ensures ∙ c.if-is_start.false)

pub returns-in-34-clause-value : goal.returns-in-34-clause-value
returns-in-34-clause-value c =
    c.of_kind-in-34.ensures.value
    ∙ ap (of_kind kind.Text) c.text_end.ensures.value
    ∙ form_quote c.args.mode c.in-Some.c _ (rest_of c.args.start) c.in-Some.ensures.step.here c.in-34.is (sym c.is_start.ensures ∙ c.if-is_start.false)

pub returns-in-96-clause-value : goal.returns-in-96-clause-value
returns-in-96-clause-value c =
    c.template_end.ensures.value
    ∙ form_backtick c.args.mode c.in-Some.c _ (rest_of c.args.start) c.in-Some.ensures.step.here c.in-96.is (sym c.is_start.ensures ∙ c.if-is_start.false)

pub returns-in-47-clause-value : goal.returns-in-47-clause-value
returns-in-47-clause-value c =
    c.slash_form.ensures.value
    ∙ form_slash c.args.mode c.in-Some.c _ (rest_of c.args.start) c.in-Some.ensures.step.here c.in-47.is (sym c.is_start.ensures ∙ c.if-is_start.false)

pub returns-in-125-clause-value : goal.returns-in-125-clause-value
returns-in-125-clause-value c =
    c.brace_form.ensures.value
    ∙ form_brace c.args.mode c.in-Some.c _ (rest_of c.args.start) c.in-Some.ensures.step.here c.in-125.is (sym c.is_start.ensures ∙ c.if-is_start.false)

pub returns-in_default-c-clause-value : goal.returns-in_default-c-clause-value
returns-in_default-c-clause-value c =
    c.number_or_punctuator.ensures.value
    ∙ form_other c.args.mode c.in-Some.c _ (rest_of c.args.start) c.in-Some.ensures.step.here (sym c.is_start.ensures ∙ c.if-is_start.false)
    (grind (arith, nat_tests)) (grind (arith, nat_tests)) (grind (arith, nat_tests)) (grind (arith, nat_tests)) (grind (arith, nat_tests)) (grind (arith, nat_tests))
