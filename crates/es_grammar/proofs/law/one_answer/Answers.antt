use Rattle.es_grammar.proofs.TreesLemmas.{answers_once}
use Rattle.es_grammar.proofs.law.one_answer.Goals as goal

pub returns : goal.returns
returns c = λ text source one other h k. answers_once h k
