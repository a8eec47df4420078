use Rattle.std.proofs.Common.{subst, ◌+◌, drop, ◌++◌, ◌∷◌, []}
use Rattle.memchr.specs.Find.{IsLastByte, is_byte}
use Rattle.report_laws.specs.OfLineCuts.Numbers.{numbers_text}
use Rattle.report_laws.proofs.OfLineCuts.Digits.{Free}
use Rattle.report_laws.proofs.OfLineCuts.Tails.{free_not, numbers_free}
use Rattle.report_check.proofs.OfReading.Ends.{free_behind, last_cut}
use Rattle.report_check.proofs.reading.packets.points_of.Goals as goal

pub returns-in-Some : goal.returns-in-Some
returns-in-Some c = λ front numbers parts.
    let found = subst (IsLastByte (is_byte 115) c.args.line.now) c.in-Some.is c.memrchr.ensures in
    let free : Free 115 (drop (c.in-Some.place + 1) c.args.line.now) = free_behind 115 c.args.line.now (c.in-Some.place + 1) found.0.after in
    last_cut 115 c.args.line.now front (numbers_text numbers ++ (10 ∷ [])) c.in-Some.place found.0.high found.1 free (numbers_free numbers) parts

pub returns-in-None : goal.returns-in-None
returns-in-None c = λ front numbers parts.
    let nowhere = subst (IsLastByte (is_byte 115) c.args.line.now) c.in-None.is c.memrchr.ensures in
    absurd (free_not 115 front (numbers_text numbers ++ (10 ∷ [])) (subst (Free 115) parts (free_behind 115 c.args.line.now 0 nowhere)))
