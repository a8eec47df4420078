use Rattle.hook_reader.proofs.loads.read_head.Given as goal

abbrev pub ghosts-head_as : goal.ghosts-head_as
ghosts-head_as a = record { name = a.blank.name; parts = a.blank.parts }
