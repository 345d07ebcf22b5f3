use Rattle.es_parser.proofs.tests.wrong_limit_here.Given as goal

abbrev pub ghosts-wrong_limit : goal.ghosts-wrong_limit
ghosts-wrong_limit a = record { name = a.blank.name; parts = a.blank.parts }
