use Rattle.es_parser.proofs.tests.the_copy_of_a_tree.Given as goal

abbrev pub ghosts-is_copied : goal.ghosts-is_copied
ghosts-is_copied g a = record { name = a.blank.name; parts = a.blank.parts }
