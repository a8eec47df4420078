use Rattle.std.proofs.Common.{subst}
use Rattle.memchr.specs.Find.{IsFirstByte, is_byte}
use Rattle.report_check.proofs.OfReading.Cutting.{end_at, no_end}
use Rattle.report_check.proofs.reading.lines.line_end.Goals as goal

pub returns-in-Some : goal.returns-in-Some
returns-in-Some c = end_at c.args.bytes.now c.in-Some.place (subst (IsFirstByte (is_byte 10) c.args.bytes.now) c.in-Some.is c.memchr.ensures)

pub returns-in-None : goal.returns-in-None
returns-in-None c = no_end c.args.bytes.now (subst (IsFirstByte (is_byte 10) c.args.bytes.now) c.in-None.is c.memchr.ensures)
