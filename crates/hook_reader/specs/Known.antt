-- What a reader knows of the names that it was told in the present walk (this project's own).
use Rattle.std.specs.Prelude.{◌≡◌, true, take, max, slice_index, Some}
use Rattle.pin_store.specs.Calls.{seen_by, floor_start}
use Rattle.visit_room.specs.declared.names.ActionName.{ActionName}
use Rattle.visit_room.specs.declared.names.MaskName.{MaskName}
use Rattle.hook_store_law.specs.Told.{stands_at}
use Rattle.hook_store_law.specs.OfVisits.Known.{MaskStood, ActionLived}
use Rattle.hook_reader.specs.Seats.{FirstHead, HookSeat}

-- The mask stood at its slot at a time that reaches the head's point and the point of the last look-up there.
-- Where the walk has visited one head, that head names it.
pub record KnowsMask (r : HookSeat) (mask : MaskName) : Type 0 where
  pub first : FirstHead
  pub walked : r.head ≡ Some first
  pub stood : MaskStood (seen_by r.place) (floor_start r.place)
      (max first.point (slice_index r.points mask.slot)) mask.slot mask.serial
  pub named : first.alone ≡ true → stands_at (take first.made (seen_by r.place)) mask.slot mask.serial

-- the action was live at such a time
pub record KnowsAction (r : HookSeat) (action : ActionName) : Type 0 where
  pub first : FirstHead
  pub walked : r.head ≡ Some first
  pub lived : ActionLived (seen_by r.place) (floor_start r.place) first.point action.slot action.serial
