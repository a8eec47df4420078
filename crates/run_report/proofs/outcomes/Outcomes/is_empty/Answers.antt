use Rattle.std.proofs.Common.{arith}
use Rattle.std.proofs.lemmas.Grind.{common_steps}
use Rattle.run_report.proofs.Places.{many_seen}
use Rattle.run_report.proofs.outcomes.Outcomes.is_empty.Goals as goal

pub returns : goal.returns
returns c =
    let many = many_seen c.self.inside.lists.items c.self.inside.places.items c.args.self.now c.self.invariant c.self.view_is in
    grind (arith, common_steps, many, c.is_empty.ensures, c.self.inside.places.ok.0)
