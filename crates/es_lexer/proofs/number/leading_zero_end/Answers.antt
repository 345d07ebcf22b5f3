use Rattle.std.proofs.Common.{◌∙◌, sym}
use Rattle.es_lexer.specs.Cursors.{rest_of}
use Rattle.es_lexer.proofs.NumberLemmas.{zero_decimal, zero_octal}
use Rattle.es_lexer.proofs.number.leading_zero_end.Goals as goal

pub returns-then-not-begins-clause-value : goal.returns-then-not-begins-clause-value
returns-then-not-begins-clause-value c =
    zero_octal (rest_of c.args.start) _ c.requires c.past-octal.ensures.value (sym c.begins.ensures ∙ c.if-not-begins.true)

pub returns-clause-value : goal.returns-clause-value
returns-clause-value c =
    zero_decimal (rest_of c.args.start) _ _ _ c.requires c.past-octal.ensures.value (sym c.begins.ensures ∙ c.if-not-begins.false)
    c.past.ensures.value c.past_parts.ensures.value
