use Rattle.es_selectors.proofs.SpellingLemmas.{spells_one}
use Rattle.es_selectors.proofs.law.one_spelling.Goals as goal

pub returns : goal.returns
returns c = spells_one
