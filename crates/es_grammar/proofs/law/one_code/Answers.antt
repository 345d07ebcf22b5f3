use Rattle.es_grammar.proofs.FirstSetsLemmas.{same_code}
use Rattle.es_grammar.proofs.law.one_code.Goals as goal

pub returns : goal.returns
returns c = same_code
