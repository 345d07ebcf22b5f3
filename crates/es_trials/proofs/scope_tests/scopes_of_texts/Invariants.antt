use Rattle.es_trials.proofs.scope_tests.scopes_of_texts.Given as goal

abbrev pub ghosts-wrong_case : goal.ghosts-wrong_case
ghosts-wrong_case g a = record { name = a.blank.name; parts = a.blank.parts }
