use Rattle.std.proofs.Common.{◌∙◌, ap, ◌++◌, sym, arith}
use Rattle.filter_index.specs.Listed.{FilterRoom}
use Rattle.filter_tables.specs.Rows.{row_of}
use Rattle.filter_tables.specs.Seen.{plain_table}
use Rattle.filter_tables.specs.SeenMask.{plain_mask}
use Rattle.tc_report.specs.Show.{filter_shown}
use Rattle.tc_report.specs.Steps.{naming, slot_shown}
use Rattle.tc_report.proofs.Lines.{item_more}
use Rattle.tc_report.proofs.Slots.{rows_shown}
use Rattle.tc_report.proofs.shown_filters.push_slots.Goals as goal

pub returns-clause-text : goal.returns-clause-text
returns-clause-text c =
    c.loop-slot.invariant.1
    ∙ ap (λ t. c.args.sheet.now.text.items ++ t)
    (rows_shown (filter_shown (naming c.args.actions.now.entries)) (row_of c.args.hook (plain_table c.args.table.now) (plain_mask c.args.mask.now)) c.slots-slots.result.now c.loop-slot.slot-index _
    (omega (arith, c.loop-slot-test.false)) (c.slots-slots.ensures.filters ∙ ap (λ (room : FilterRoom). room.filters) c.filters.ensures))

pub loop-slot-preserved : goal.loop-slot-preserved
loop-slot-preserved c = (
  c.in_ok-push_slot.ensures.line,
  item_more (slot_shown (λ f. filter_shown (naming c.args.actions.now.entries) (row_of c.args.hook (plain_table c.args.table.now) (plain_mask c.args.mask.now) f))) _ _ _
      c.slots-slots.result.now c.loop-slot.slot-index _ c.loop-slot-test.true (sym c.slot-item.is) c.loop-slot.invariant.1 c.in_ok-push_slot.ensures.text,
)
