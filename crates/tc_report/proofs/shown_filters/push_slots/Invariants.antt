use Rattle.std.proofs.Common.{◌≡◌, [], ◌++◌, take}
use Rattle.std.specs.List.{flat_map}
use Rattle.filter_tables.specs.Rows.{row_of}
use Rattle.filter_tables.specs.Seen.{plain_table}
use Rattle.filter_tables.specs.SeenMask.{plain_mask}
use Rattle.tc_report.specs.Show.{filter_shown}
use Rattle.tc_report.specs.Steps.{naming, slot_shown}
use Rattle.tc_report.proofs.shown_filters.push_slots.Given as goal

abbrev pub invariant-loop-slot : goal.invariant-loop-slot
invariant-loop-slot l =
    (l.sheet.line.items ≡ [])
    × (l.sheet.text.items ≡ l.fn.sheet.text.items
    ++ flat_map (slot_shown (λ f. filter_shown (naming l.actions.entries) (row_of l.hook (plain_table l.table) (plain_mask l.mask) f))) (take l.slot-index l.slots))
