use Rattle.hook_law.proofs.Case.{small_keeps, small_stands}
use Rattle.hook_law.proofs.law.small_hook.Goals as goal

pub returns-clause-keeps : goal.returns-clause-keeps
returns-clause-keeps c = small_keeps

pub returns-clause-stands : goal.returns-clause-stands
returns-clause-stands c = small_stands
