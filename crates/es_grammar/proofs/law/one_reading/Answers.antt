use Rattle.es_grammar.proofs.ReadingLemmas.{reads_once}
use Rattle.es_grammar.proofs.law.one_reading.Goals as goal

pub returns : goal.returns
returns c = λ text symbol spot one other h k. reads_once h k
