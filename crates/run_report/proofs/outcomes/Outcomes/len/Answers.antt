use Rattle.std.proofs.Common.{arith}
use Rattle.run_report.proofs.Places.{many_seen}
use Rattle.run_report.proofs.outcomes.Outcomes.len.Goals as goal

pub returns : goal.returns
returns c =
    let many = many_seen c.self.inside.lists.items c.self.inside.places.items c.args.self.now c.self.invariant c.self.view_is in
    let told = c.len.ensures in
    let own = c.self.inside.places.ok.0 in
    omega (arith, many, told, own)
