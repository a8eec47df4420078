use Rattle.std.proofs.Common.{◌≡◌, ◌∙◌, ◌-◌, suc, sym, ap, arith}
use Rattle.run_report.specs.Kept.{first_ends, start_of}
use Rattle.run_report.proofs.Buffers.{start_behind}
use Rattle.run_report.proofs.outcome_list.start_of.Goals as goal

pub returns-in_default : goal.returns-in_default
returns-in_default c =
    let before : c.args.row ≡ suc (c.args.row - 1) = omega arith in
    sym (ap (start_of first_ends c.args.rows.now) before ∙ start_behind first_ends c.args.rows.now (c.args.row - 1) _ (omega arith))
