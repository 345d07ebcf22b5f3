use Rattle.es_rules_plain.proofs.SpelledLemmas.{spelled_found, spelled_sound}
use Rattle.es_rules_plain.proofs.law.finds_spelled.Goals as goal

pub returns : goal.returns
returns c text spelling = (spelled_sound text spelling, spelled_found text spelling)
