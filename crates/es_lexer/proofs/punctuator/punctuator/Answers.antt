use Rattle.std.proofs.Common.{◌∙◌, ap, sym}
use Rattle.std.specs.Option.{option_map}
use Rattle.es_lexer.specs.Cursors.{rest_of}
use Rattle.es_lexer.specs.Forms.{form_of}
use Rattle.es_lexer.proofs.PunctuatorLemmas.{none_at, other_at, question_at, question_stands, stands}
use Rattle.es_lexer.proofs.punctuator.punctuator.Goals as goal

pub returns-in_err-row-clause-value : goal.returns-in_err-row-clause-value
returns-in_err-row-clause-value c =
    ap (option_map form_of) c.from_residual.ensures
    ∙ none_at c.rest.result.now c.args.start c.rest.ensures c.rest.utf8 c.in_err-row.ensures.none

pub past_word-end-requires : goal.past_word-end-requires
past_word-end-requires c =
    stands c.rest.result.now c.in_ok-row.row.text.now c.in_ok-row.row.code c.args.start c.rest.ensures c.rest.utf8 c.in_ok-row.ensures.longest

pub past_word-requires : goal.past_word-requires
past_word-requires c =
    question_stands c.rest.result.now c.in_ok-row.row.text.now (rest_of c.past_word-end.result) c.in_ok-row.row.code c.args.start c.rest.ensures c.rest.utf8 c.in_ok-row.ensures.longest
    (sym c.is_chain_before_digit.ensures ∙ c.if-is_chain_before_digit.true)

pub returns-then-is_chain_before_digit-clause-value : goal.returns-then-is_chain_before_digit-clause-value
returns-then-is_chain_before_digit-clause-value c =
    question_at c.rest.result.now c.in_ok-row.row.text.now _ _ c.in_ok-row.row.code c.args.start c.rest.ensures c.rest.utf8 c.in_ok-row.ensures.longest
    c.past_word-end.ensures.value c.past_word.ensures.value (sym c.is_chain_before_digit.ensures ∙ c.if-is_chain_before_digit.true)

pub returns-clause-value : goal.returns-clause-value
returns-clause-value c =
    other_at c.rest.result.now c.in_ok-row.row.text.now _ c.in_ok-row.row.code c.args.start c.rest.ensures c.rest.utf8 c.in_ok-row.ensures.longest
    c.past_word-end.ensures.value (sym c.is_chain_before_digit.ensures ∙ c.if-is_chain_before_digit.false)
