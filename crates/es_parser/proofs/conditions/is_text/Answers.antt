use Rattle.std.proofs.Common.{◌∙◌}
use Rattle.es_parser.proofs.ConditionsLemmas.{ascii_same}
use Rattle.es_parser.proofs.conditions.is_text.Goals as goal

pub returns : goal.returns
returns c = c.eq.ensures ∙ ascii_same c.args.words.now c.args.text.now c.utf8.words c.utf8.text c.requires
