use Rattle.std.proofs.Common.{refl, sym, ◌∙◌}
use Rattle.hook_lists.proofs.Sought.{place_within}
use Rattle.filter_lists.proofs.OfAdding.Seats.{mask_found, mask_lacking}
use Rattle.filter_lists.proofs.adding.seating.seat_in_table.Goals as goal

pub reserve_filter-requires-clause-mask : goal.reserve_filter-requires-clause-mask
reserve_filter-requires-clause-mask c = λ t there. place_within _ _ _ (sym (c.find_mask.ensures t there) ∙ c.in-Some.is)

pub returns-in_ok-reserve_filter-in-Some-clause-seat : goal.returns-in_ok-reserve_filter-in-Some-clause-seat
returns-in_ok-reserve_filter-in-Some-clause-seat c = (
  refl,
  mask_found c.args.tables.now c.reserve_filter.new.self c.args.mask.now.words c.args.table c.in-Some.mask c.find_mask.result c.reserve_filter.ensures.tables c.requires c.find_mask.ensures
      c.in-Some.is c.in_ok-reserve_filter-in-Some.ensures.room,
)

pub returns-in_ok-room_for_one-in-None-clause-seat : goal.returns-in_ok-room_for_one-in-None-clause-seat
returns-in_ok-room_for_one-in-None-clause-seat c = (
  refl,
  mask_lacking c.args.tables.now c.reserve_mask.new.self c.args.mask.now.words c.args.table c.find_mask.result c.reserve_mask.ensures.tables c.requires c.find_mask.ensures c.in-None.is
      c.in_ok-reserve_mask-in-None.ensures.room,
  c.in_ok-room_for_one-in-None.ensures,
)
