use Rattle.hook_cases.proofs.laws.visit.Given as goal

abbrev pub ghosts-visit_as : goal.ghosts-visit_as
ghosts-visit_as a = record { name = a.blank.name; parts = a.blank.parts }
