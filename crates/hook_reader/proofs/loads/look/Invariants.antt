use Rattle.hook_reader.proofs.loads.look.Given as goal

abbrev pub ghosts-look_as : goal.ghosts-look_as
ghosts-look_as a = record { name = a.blank.name; parts = a.blank.parts }
