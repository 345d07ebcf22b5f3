use Rattle.es_parser.proofs.ParsingLemmas.{parses_once}
use Rattle.es_parser.proofs.law.one_parse.Goals as goal

pub returns : goal.returns
returns c = λ text source one other h k. parses_once (c.one_answer.ensures text source) c.one_first.ensures h k
