use Rattle.report_laws.proofs.OfLineCuts.Cutting.{cut_joined}
use Rattle.report_laws.proofs.line_cuts.laws.whole_lines.Goals as goal

pub returns : goal.returns
returns c = cut_joined
