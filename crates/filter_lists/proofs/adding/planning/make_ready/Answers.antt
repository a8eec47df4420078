use Rattle.std.proofs.Common.{ℕ, List, sym, subst, arith}
use Rattle.filter_tables.specs.Changes.{is_table}
use Rattle.filter_tables.specs.Rows.{tables_on}
use Rattle.action_plan.specs.Plans.{made_of, carried}
use Rattle.hook_lists.specs.States.{both_of, room_on, state_of}
use Rattle.filter_lists.specs.OfAdding.Seats.{IsThere}
use Rattle.action_plan.specs.declared.planned.PlannedAction.{PlannedAction}
use Rattle.filter_lists.specs.OfAdding.Ready.{IsArrival, IsAdded}
use Rattle.filter_lists.proofs.OfAdding.Planned.{AreToPlan}
use Rattle.filter_lists.proofs.OfAdding.Asking.{tables_same}
use Rattle.filter_lists.proofs.OfAdding.Later.{more_twice, kept_later, found_later, found_within, fits_later}
use Rattle.filter_lists.proofs.OfAdding.Seats.{seat_there}
use Rattle.filter_lists.proofs.OfAdding.Added.{within_limits, is_added}
use Rattle.filter_lists.proofs.adding.planning.make_ready.Goals as goal

pub reserve_actions-requires-clause-full : goal.reserve_actions-requires-clause-full
reserve_actions-requires-clause-full c =
    let limits = within_limits (state_of c.args.kept.now) c.args.line.now c.args.found.now.pref (carried (made_of c.args.kept.now.actions) c.args.found.now.actions) c.requires.found.limits in
    limits.actions

pub seat_for-requires : goal.seat_for-requires
seat_for-requires c =
    let line = c.args.line.now in
    let is = found_later c.args.kept.now c.reserve_actions.new.kept line c.args.found.now c.reserve_actions.ensures.roomier c.requires.found in
    found_within (is_table line.chain c.args.found.now.pref) (tables_on line.hook (both_of c.reserve_actions.new.kept)) c.args.found.now.place is.place

pub arrival_for-requires-clause-kept : goal.arrival_for-requires-clause-kept
arrival_for-requires-clause-kept c =
    kept_later c.args.kept.now c.seat_for.new.kept
    (more_twice c.args.kept.now c.reserve_actions.new.kept c.seat_for.new.kept c.reserve_actions.ensures.roomier c.seat_for.ensures.roomier) c.requires.kept

pub arrival_for-requires-clause-there : goal.arrival_for-requires-clause-there
arrival_for-requires-clause-there c =
    let hook = c.args.line.now.hook in
    let kept = c.seat_for.new.kept in
    subst (λ ts. IsThere ts c.in_ok-seat.seat) (tables_same hook kept) (seat_there (room_on hook kept) c.args.found.now.place c.args.line.now.mask.words c.in_ok-seat.seat c.in_ok-seat.ensures.seat)

pub returns-clause-added : goal.returns-clause-added
returns-clause-added c =
    let old = c.args.kept.now in
    let kept = c.seat_for.new.kept in
    let line = c.args.line.now in
    let found = c.args.found.now in
    let seat = c.in_ok-seat.seat in
    let more = more_twice old c.reserve_actions.new.kept kept c.reserve_actions.ensures.roomier c.seat_for.ensures.roomier in
    let plan : AreToPlan kept line found seat c.arrival_for.result = record {
      are = kept_later old kept more c.requires.kept;
      filter = c.requires.line;
      looked = found_later old kept line found more c.requires.found;
      arrival = subst (λ (serials : List ℕ). IsArrival kept line found.pref serials seat c.arrival_for.result) c.in_ok-for_filter.ensures c.arrival_for.ensures;
    } in
    subst (λ (actions : List PlannedAction). IsAdded kept line (record { arrival = c.arrival_for.result; seat = seat; actions = actions; serials = c.in_ok-serials.serials }))
    (sym c.in_ok-actions.ensures)
    (is_added kept line found seat c.arrival_for.result c.in_ok-serials.serials plan c.in_ok-seat.ensures.seat
    (fits_later c.reserve_actions.new.kept kept found.actions c.seat_for.ensures.actions c.in_ok-reserve_actions.ensures.fits)
    (omega (arith, more.tables_made, c.requires.tables)) (omega (arith, more.masks_made, c.requires.masks)) c.in_ok-serials.ensures)
