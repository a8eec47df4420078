use Rattle.std.proofs.Common.{arith}
use Rattle.std.proofs.lemmas.Grind.{common_steps}
use Rattle.report_check.proofs.OfReading.Cutting.{first_line}
use Rattle.report_check.proofs.reading.lines.next_line.Goals as goal

pub returns-clause-some : goal.returns-clause-some
returns-clause-some c = first_line c.args.bytes.now c.line_end-end.result (grind (arith, common_steps)) c.line_end-end.ensures
