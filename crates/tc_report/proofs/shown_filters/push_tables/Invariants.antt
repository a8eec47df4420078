use Rattle.std.proofs.Common.{◌≡◌, [], ◌++◌, take}
use Rattle.std.specs.List.{flat_map}
use Rattle.filter_tables.specs.Rows.{rows_of_table}
use Rattle.filter_tables.specs.Seen.{plain_table}
use Rattle.tc_report.specs.Show.{filter_shown}
use Rattle.tc_report.specs.Steps.{naming}
use Rattle.tc_report.proofs.shown_filters.push_tables.Given as goal

abbrev pub invariant-loop-table : goal.invariant-loop-table
invariant-loop-table l =
    (l.sheet.line.items ≡ [])
    × (l.sheet.text.items ≡ l.fn.sheet.text.items
    ++ flat_map (λ t. flat_map (filter_shown (naming l.lists.actions.entries)) (rows_of_table l.hook (plain_table t))) (take l.table-index l.tables))
