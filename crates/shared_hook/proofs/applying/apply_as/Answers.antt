use Rattle.std.proofs.Common.{◌∙◌, length, List, sym, ap, subst, arith}
use Rattle.store_history.specs.History.{edits_of}
use Rattle.filter_state.specs.declared.edit.Edit.{Edit}
use Rattle.desk_actions.specs.OfLedgers.Kept.{commits}
use Rattle.desk_parts.specs.declared.parts.Parts.{Parts}
use Rattle.shared_hook.specs.OfPlans.Plans.{IsPlan, IsReadyFor}
use Rattle.shared_hook.specs.OfPlans.Done.{IsDone}
use Rattle.shared_hook.specs.Applied.{IsApplied, IsHeld}
use Rattle.shared_hook.specs.Views.{view_of}
use Rattle.shared_hook.proofs.Following.{can_have, counted_still, held_so, plan_still, ready_still, applied_so, same_held, same_done}
use Rattle.shared_hook.proofs.applying.apply_as.Goals as goal

pub make_room-requires-clause-can : goal.make_room-requires-clause-can
make_room-requires-clause-can g c = let told = c.begin.ensures in
    can_have c.begin.new.parts c.args.edit.now c.in-Ok.begun c.in-Ok.ensures.begun (counted_still c.args.parts.now c.begin.new.parts told.rest c.requires.desk.counted)

pub do_edit-requires-clause-plan : goal.do_edit-requires-clause-plan
do_edit-requires-clause-plan g c = let told = c.begin.ensures in
    subst (λ (y : Edit). IsPlan (commits c.make_room.new.parts.ledger) y c.in-Ok.begun.plan) c.requires.edit
    (plan_still c.args.parts.now c.begin.new.parts told.rest c.args.edit.now c.in-Ok.begun c.in-Ok.ensures.begun told.stays c.make_room.new.parts c.make_room.ensures.cleared c.begin.ensures.desk)

pub do_edit-requires-clause-ready : goal.do_edit-requires-clause-ready
do_edit-requires-clause-ready g c = let told = c.begin.ensures in let cleared = c.make_room.ensures.cleared in
    let few = c.requires.few.1 in
    let same = ap length (cleared.journal ∙ ap {B = List Edit} (λ (p : Parts). edits_of (commits p.ledger)) told.rest) in
    let at = cleared.desk.whole.kept.point_is in
    subst (λ (y : Edit). IsReadyFor c.make_room.new.parts y c.in-Ok.begun.prepared) c.requires.edit
    (ready_still c.args.parts.now c.begin.new.parts told.rest c.args.edit.now c.in-Ok.begun c.in-Ok.ensures.begun told.stays c.make_room.new.parts cleared c.in-None.ensures.room (omega (arith, few, same, at)))

pub returns-in-Some-clause-held : goal.returns-in-Some-clause-held
returns-in-Some-clause-held g c pool reader pin needed free is = let told = c.begin.ensures in
    same_held c.held.result c.in-Some.hindrance c.held.ensures (IsHeld (view_of c.args.parts.now) (view_of c.make_room.new.parts) c.args.edit.now)
    (held_so c.args.parts.now c.begin.new.parts told.rest c.args.edit.now c.in-Ok.begun c.in-Ok.ensures.begun told.stays c.make_room.new.parts c.make_room.ensures.cleared c.in-Some.hindrance c.in-Some.ensures.room)
    pool reader pin needed free is

pub returns-in-None-clause-applied : goal.returns-in-None-clause-applied
returns-in-None-clause-applied g c = let told = c.begin.ensures in
    same_done c.do_edit.result (IsApplied (view_of c.args.parts.now) (view_of c.do_edit.new.parts) c.args.edit.now)
    (applied_so c.args.parts.now c.begin.new.parts told.rest c.args.edit.now c.in-Ok.begun c.in-Ok.ensures.begun told.stays c.make_room.new.parts c.make_room.ensures.cleared c.do_edit.new.parts c.do_edit.result
    (subst (λ (y : Edit). IsDone c.make_room.new.parts c.do_edit.new.parts y c.do_edit.result) (sym c.requires.edit) c.do_edit.ensures.done))
