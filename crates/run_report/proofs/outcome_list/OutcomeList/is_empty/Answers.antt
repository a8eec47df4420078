use Rattle.std.proofs.Common.{arith}
use Rattle.std.proofs.lemmas.Grind.{common_steps}
use Rattle.run_report.proofs.Buffers.{many_rows}
use Rattle.run_report.proofs.outcome_list.OutcomeList.is_empty.Goals as goal

pub returns : goal.returns
returns c =
    let many = many_rows c.self.inside.bytes.items c.self.inside.points.items c.self.inside.executed.items c.self.inside.rows.items c.args.self.now c.self.view_is in
    grind (arith, common_steps, many, c.is_empty.ensures, c.self.inside.rows.ok.0)
