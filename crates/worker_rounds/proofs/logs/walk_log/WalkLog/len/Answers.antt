use Rattle.std.proofs.Common.{length, ap, arith}
use Rattle.worker_rounds.proofs.OfLogs.Logged.{rows_many}
use Rattle.worker_rounds.proofs.logs.walk_log.WalkLog.len.Goals as goal

pub returns : goal.returns
returns c =
    let told = c.len.ensures in
    let seen = ap length c.self.view_is in
    let many = rows_many c.self.inside.numbers.items c.self.inside.outcomes c.self.invariant in
    let own = c.self.inside.numbers.ok.0 in
    omega (arith, told, seen, many, own)
