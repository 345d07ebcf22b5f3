use Rattle.std.proofs.Common.{◌∙◌, sym}
use Rattle.es_parser.proofs.RegExpLemmas.{no_slash}
use Rattle.es_parser.proofs.sets.begins_regexp.Goals as goal

pub returns-else-is_slash-clause-regexp : goal.returns-else-is_slash-clause-regexp
returns-else-is_slash-clause-regexp g c =
    no_slash c.args.reader.now c.args.spot.context c.args.spot.at c.args.found c.requires.token (sym c.is_slash.ensures ∙ c.if-is_slash.false)
