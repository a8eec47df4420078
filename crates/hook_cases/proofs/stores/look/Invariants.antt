use Rattle.hook_cases.proofs.stores.look.Given as goal

abbrev pub ghosts-load_as : goal.ghosts-load_as
ghosts-load_as a = record { name = a.blank.name; parts = a.blank.parts }
