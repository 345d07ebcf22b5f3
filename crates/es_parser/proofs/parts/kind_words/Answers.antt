use Rattle.std.proofs.Common.{◌∙◌, ap, sym}
use Rattle.es_grammar.specs.Drafts.{kind_setting}
use Rattle.es_parser.proofs.CharsLemmas.{constructor_words, init_words, method_words}
use Rattle.es_parser.proofs.parts.kind_words.Goals as goal

pub returns-in-Init : goal.returns-in-Init
returns-in-Init c = init_words ∙ ap kind_setting (sym c.in-Init.is)

pub returns-in-Method : goal.returns-in-Method
returns-in-Method c = method_words ∙ ap kind_setting (sym c.in-Method.is)

pub returns-in-Constructor : goal.returns-in-Constructor
returns-in-Constructor c = constructor_words ∙ ap kind_setting (sym c.in-Constructor.is)
