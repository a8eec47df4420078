use Rattle.report_trace.proofs.Own.{nothing_else}
use Rattle.report_trace.proofs.OwnLines.{report_left}
use Rattle.report_trace.proofs.laws.nothing_else_is_told.Goals as goal

pub returns-clause-parts : goal.returns-clause-parts
returns-clause-parts c = nothing_else

pub returns-clause-lines : goal.returns-clause-lines
returns-clause-lines c = report_left
