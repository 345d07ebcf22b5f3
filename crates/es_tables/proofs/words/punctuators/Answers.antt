use Rattle.std.proofs.Common.{refl}
use Rattle.es_tables.specs.Words.{punctuator_words}
use Rattle.es_tables.proofs.RowsLemmas.{ordered_from_test, numbered_from_test}
use Rattle.es_tables.proofs.words.punctuators.Goals as goal

-- the checker computes both tests over the whole table
pub returns-clause-ordered : goal.returns-clause-ordered
returns-clause-ordered c = ordered_from_test _ refl

pub returns-clause-words : goal.returns-clause-words
returns-clause-words c = numbered_from_test punctuator_words _ refl
