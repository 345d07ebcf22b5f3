use Rattle.es_text.proofs.SpansLemmas.{part-lies}
use Rattle.es_text.proofs.law.parts_lie.Goals as goal

pub returns : goal.returns
returns c = λ bytes span. part-lies bytes span
