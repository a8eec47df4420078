use Rattle.std.proofs.Common.{codes, lit<}
use Rattle.filter_tables.specs.Rows.{row_of}
use Rattle.filter_tables.specs.Seen.{plain_table}
use Rattle.filter_tables.specs.SeenMask.{plain_mask}
use Rattle.tc_print.specs.EditWords.{filter_words}
use Rattle.tc_report.specs.Show.{line_of}
use Rattle.tc_report.specs.Steps.{naming}
use Rattle.tc_report.proofs.Lines.{line_done}
use Rattle.tc_report.proofs.shown_filters.push_filter.Goals as goal

pub returns-clause-text : goal.returns-clause-text
returns-clause-text c =
    line_done c.args.sheet.now.text.items _ _ _
    (filter_words (codes "add") (line_of (naming c.args.actions.now.entries) (row_of c.args.hook (plain_table c.args.table.now) (plain_mask c.args.mask.now) c.args.filter.now))) (lit< tt)
    c.requires c.in_ok-push_words.ensures c.in_ok-end_line.ensures.text
