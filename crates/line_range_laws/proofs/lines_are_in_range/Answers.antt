use Rattle.line_range_laws.proofs.Lines.{says}
use Rattle.line_range_laws.proofs.lines_are_in_range.Goals as goal

pub returns : goal.returns
returns c = says
