use Rattle.batch_trace.proofs.Parts.{nothing_else}
use Rattle.batch_trace.proofs.OwnLines.{only_walk_left}
use Rattle.batch_trace.proofs.laws.nothing_else_is_told.Goals as goal

pub returns-clause-parts : goal.returns-clause-parts
returns-clause-parts c = nothing_else

pub returns-clause-lines : goal.returns-clause-lines
returns-clause-lines c = only_walk_left
