use Rattle.hook_reader.proofs.loads.read_action.Given as goal

abbrev pub ghosts-action_as : goal.ghosts-action_as
ghosts-action_as a = record { name = a.blank.name; parts = a.blank.parts }
