use Rattle.hook_cases.proofs.laws.visit_as.Goals as goal

pub look-found-requires-clause-kept : goal.look-found-requires-clause-kept
look-found-requires-clause-kept g c = c.requires.kept _
