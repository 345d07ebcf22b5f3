use Rattle.std.proofs.Common.{◌∙◌, sym}
use Rattle.es_lexer.specs.Cursors.{rest_of}
use Rattle.es_lexer.proofs.NumberLemmas.{zero_based, zero_whole}
use Rattle.es_lexer.proofs.number.zero_end.Goals as goal

pub returns-in-Some-clause-value : goal.returns-in-Some-clause-value
returns-in-Some-clause-value c = zero_based (rest_of c.args.start) _ (sym c.begins.ensures ∙ c.if-begins.false) c.in-Some.ensures.value

pub returns-in-None-clause-value : goal.returns-in-None-clause-value
returns-in-None-clause-value c =
    zero_whole (rest_of c.args.start) _ (sym c.begins.ensures ∙ c.if-begins.false) c.in-None.ensures.value c.whole_end.ensures.value
