use Rattle.hook_reader.proofs.loads.load_word.Given as goal

abbrev pub ghosts-word_as : goal.ghosts-word_as
ghosts-word_as a = record { name = a.blank.name; parts = a.blank.parts }
