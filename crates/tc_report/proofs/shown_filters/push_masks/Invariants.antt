use Rattle.std.proofs.Common.{◌≡◌, [], ◌++◌, take}
use Rattle.std.specs.List.{flat_map}
use Rattle.filter_tables.specs.Rows.{rows_of_mask}
use Rattle.filter_tables.specs.Seen.{plain_table}
use Rattle.filter_tables.specs.SeenMask.{plain_mask}
use Rattle.tc_report.specs.Show.{filter_shown}
use Rattle.tc_report.specs.Steps.{naming}
use Rattle.tc_report.proofs.shown_filters.push_masks.Given as goal

abbrev pub invariant-loop-mask : goal.invariant-loop-mask
invariant-loop-mask l =
    (l.sheet.line.items ≡ [])
    × (l.sheet.text.items ≡ l.fn.sheet.text.items
    ++ flat_map (λ m. flat_map (filter_shown (naming l.actions.entries)) (rows_of_mask l.hook (plain_table l.table) (plain_mask m))) (take l.mask-index l.masks))
