use Rattle.std.proofs.Common.{◌∙◌, ap, ◌++◌, arith}
use Rattle.filter_tables.specs.Rows.{rows_of_mask}
use Rattle.filter_tables.specs.Seen.{plain_table}
use Rattle.filter_tables.specs.SeenMask.{plain_mask}
use Rattle.tc_report.specs.Show.{filter_shown}
use Rattle.tc_report.specs.Steps.{naming}
use Rattle.tc_report.proofs.Lines.{parts_shown}
use Rattle.tc_report.proofs.shown_filters.push_masks.Goals as goal

pub returns-clause-text : goal.returns-clause-text
returns-clause-text c =
    c.loop-mask.invariant.1
    ∙ ap (λ t. c.args.sheet.now.text.items ++ t)
    (parts_shown (filter_shown (naming c.args.actions.now.entries)) (rows_of_mask c.args.hook (plain_table c.args.table.now)) plain_mask c.as_slice-masks.result.now c.loop-mask.mask-index _
    (omega (arith, c.loop-mask-test.false)) c.as_slice-masks.ensures)
