use Rattle.hook_lists.specs.States.{state_of}
use Rattle.hook_lists.proofs.Covered.{covered_bound}
use Rattle.hook_lists.proofs.Holding.{covered_gone}
use Rattle.hook_lists.proofs.Later.{bound_later}
use Rattle.hook_lists.proofs.laws.places_are_bound.Goals as goal

pub returns-clause-now : goal.returns-clause-now
returns-clause-now c = λ kept gone are. covered_bound _ kept.actions.entries (covered_gone (state_of kept) gone are.sound)

pub returns-clause-later : goal.returns-clause-later
returns-clause-later c = bound_later
