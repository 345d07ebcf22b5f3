use Rattle.es_trials.proofs.rule_tests.told_of.Given as goal

abbrev pub ghosts-counted_parse : goal.ghosts-counted_parse
ghosts-counted_parse g a = record { name = a.blank.name; parts = a.blank.parts }
