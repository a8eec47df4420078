use Rattle.std.proofs.Common.{◌∙◌, ap, ◌++◌, arith}
use Rattle.filter_tables.specs.Rows.{rows_of_table, rows_of}
use Rattle.filter_tables.specs.Seen.{plain_table}
use Rattle.tc_report.specs.Show.{filter_shown}
use Rattle.tc_report.specs.Steps.{naming}
use Rattle.tc_report.proofs.Lines.{parts_shown}
use Rattle.tc_report.proofs.shown_filters.push_tables.Goals as goal

pub returns-clause-text : goal.returns-clause-text
unfolding rows_of
returns-clause-text c =
    c.loop-table.invariant.1
    ∙ ap (λ t. c.args.sheet.now.text.items ++ t)
    (parts_shown (filter_shown (naming c.args.lists.now.actions.entries)) (rows_of_table c.args.hook) plain_table c.tables-tables.result.now c.loop-table.table-index _
    (omega (arith, c.loop-table-test.false)) c.tables-tables.ensures.tables)
