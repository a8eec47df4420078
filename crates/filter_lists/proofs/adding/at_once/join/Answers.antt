use Rattle.std.proofs.Common.{subst}
use Rattle.filter_tables.specs.Changes.{is_table}
use Rattle.filter_tables.specs.Rows.{tables_on}
use Rattle.action_plan.specs.Plans.{made_of, carried}
use Rattle.hook_lists.specs.States.{both_of, room_on, state_of}
use Rattle.filter_lists.specs.OfAdding.Seats.{IsThere}
use Rattle.filter_lists.proofs.OfAdding.Asking.{tables_same}
use Rattle.filter_lists.proofs.OfAdding.Later.{more_twice, kept_later, found_later, found_within}
use Rattle.filter_lists.proofs.OfAdding.Seats.{seat_there}
use Rattle.filter_lists.proofs.OfAdding.Added.{within_limits}
use Rattle.filter_lists.proofs.OfAdding.AtOnce.{AreTaken, added_there, done_there}
use Rattle.filter_lists.proofs.adding.at_once.join.Goals as goal

pub reserve_actions-requires-clause-full : goal.reserve_actions-requires-clause-full
reserve_actions-requires-clause-full c =
    let limits = within_limits (state_of c.args.kept.now) c.args.line.now c.args.found.now.pref (carried (made_of c.args.kept.now.actions) c.args.found.now.actions) c.requires.found.limits in
    limits.actions

pub seat_for-requires : goal.seat_for-requires
seat_for-requires c =
    let line = c.args.line.now in
    let is = found_later c.args.kept.now c.reserve_actions.new.kept line c.args.found.now c.reserve_actions.ensures.roomier c.requires.found in
    found_within (is_table line.chain c.args.found.now.pref) (tables_on line.hook (both_of c.reserve_actions.new.kept)) c.args.found.now.place is.place

pub arrival_for-arrival-requires-clause-kept : goal.arrival_for-arrival-requires-clause-kept
arrival_for-arrival-requires-clause-kept c =
    kept_later c.args.kept.now c.seat_for.new.kept
    (more_twice c.args.kept.now c.reserve_actions.new.kept c.seat_for.new.kept c.reserve_actions.ensures.roomier c.seat_for.ensures.roomier) c.requires.kept

pub arrival_for-arrival-requires-clause-there : goal.arrival_for-arrival-requires-clause-there
arrival_for-arrival-requires-clause-there c =
    let hook = c.args.line.now.hook in
    let kept = c.seat_for.new.kept in
    subst (λ ts. IsThere ts c.in_ok-seat.seat) (tables_same hook kept) (seat_there (room_on hook kept) c.args.found.now.place c.args.line.now.mask.words c.in_ok-seat.seat c.in_ok-seat.ensures.seat)

pub settle-requires-clause-kept : goal.settle-requires-clause-kept
settle-requires-clause-kept c =
    kept_later c.args.kept.now c.seat_for.new.kept
    (more_twice c.args.kept.now c.reserve_actions.new.kept c.seat_for.new.kept c.reserve_actions.ensures.roomier c.seat_for.ensures.roomier) c.requires.kept

pub settle-requires-clause-ready : goal.settle-requires-clause-ready
settle-requires-clause-ready c =
    let taken : AreTaken c.args.kept.now c.reserve_actions.new.kept c.seat_for.new.kept c.args.line.now c.args.found.now c.in_ok-seat.seat c.arrival_for-arrival.result c.in_ok-for_filter.for_filter c.in_ok-serials.serials =
    record {
      are = c.requires.kept;
      filter = c.requires.line;
      looked = c.requires.found;
      tables = c.requires.tables;
      masks = c.requires.masks;
      first = c.reserve_actions.ensures.roomier;
      second = c.seat_for.ensures.roomier;
      actions = c.seat_for.ensures.actions;
      fits = c.in_ok-reserve_actions.ensures.fits;
      seated = c.in_ok-seat.ensures.seat;
      arrival = c.arrival_for-arrival.ensures;
      given = c.in_ok-for_filter.ensures;
      told = c.in_ok-serials.ensures;
    } in
    let added = added_there c.args.kept.now c.reserve_actions.new.kept c.seat_for.new.kept c.args.line.now c.args.found.now c.in_ok-seat.seat c.arrival_for-arrival.result c.in_ok-for_filter.for_filter c.in_ok-serials.serials taken in
    added.ready

pub returns-clause-done : goal.returns-clause-done
returns-clause-done c =
    let taken : AreTaken c.args.kept.now c.reserve_actions.new.kept c.seat_for.new.kept c.args.line.now c.args.found.now c.in_ok-seat.seat c.arrival_for-arrival.result c.in_ok-for_filter.for_filter c.in_ok-serials.serials =
    record {
      are = c.requires.kept;
      filter = c.requires.line;
      looked = c.requires.found;
      tables = c.requires.tables;
      masks = c.requires.masks;
      first = c.reserve_actions.ensures.roomier;
      second = c.seat_for.ensures.roomier;
      actions = c.seat_for.ensures.actions;
      fits = c.in_ok-reserve_actions.ensures.fits;
      seated = c.in_ok-seat.ensures.seat;
      arrival = c.arrival_for-arrival.ensures;
      given = c.in_ok-for_filter.ensures;
      told = c.in_ok-serials.ensures;
    } in
    done_there c.args.kept.now c.reserve_actions.new.kept c.seat_for.new.kept c.settle.new.kept c.args.line.now c.args.found.now c.in_ok-seat.seat c.arrival_for-arrival.result c.in_ok-for_filter.for_filter c.in_ok-serials.serials c.settle.result taken c.settle.ensures
