-- The rule of each symbol.
use Rattle.es_grammar.specs.declared.symbol.Symbol.{Symbol}
use Rattle.es_grammar.specs.Forms.{Form}
use Rattle.es_grammar.specs.Expressions.{expression_rule}

unfoldable pub rule_of : Symbol → Form
unfolding expression_rule
rule_of symbol = expression_rule symbol
