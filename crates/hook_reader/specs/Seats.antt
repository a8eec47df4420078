-- A reader of a hook's store, as contracts see it (this project's own).
use Rattle.store_history.specs.declared.places.TheConstants.{MASK_SLOTS}
use Rattle.std.specs.Prelude.{◌≡◌, ℕ, ◌≤◌, Bool, List, length, Option, IfSome, All}
use Rattle.std.specs.Option.{option_map}
use Rattle.atomic_table.specs.declared.shared.Seat.{Seat}
use Rattle.pin_store.specs.declared.view.View.{View}
use Rattle.pin_store.specs.Calls.{seen_by, floor_start}
use Rattle.filter_state.specs.declared.edit.Edit.{Edit}
use Rattle.hook_law.specs.Meaning.{point_of}
use Rattle.hook_reader.specs.declared.head_seen.HeadSeen.{HeadSeen}

-- the first head that a walk visited: its point, how many commits the reader had then seen, and whether the
-- walk has visited no other head
pub record FirstHead : Type 0 where
  pub point : ℕ
  pub made : ℕ
  pub alone : Bool

-- The seat in the store; how many visits were made; the greatest of all points and receipts so far; and of
-- the present walk the first head, and for each slot of a mask the point of the last look-up there.
pub record HookSeat : Type 0 where
  pub place : Seat (Unit {0}) (View Edit)
  pub visits : ℕ
  pub latest : ℕ
  pub head : Option FirstHead
  pub points : List ℕ

abbrev pub first_head : HeadSeen → FirstHead
first_head head = record {
  point = head.point;
  made = length (seen_by head.reader.value.place);
  alone = head.is_alone;
}

abbrev pub first_head_of : Option HeadSeen → Option FirstHead
first_head_of head = option_map first_head head

-- the head was visited at a time that the reader has seen, and not before it went inside
pub record IsHeadOf (r : HookSeat) (head : FirstHead) : Type 0 where
  pub point : head.point ≤ r.latest
  pub late : floor_start r.place ≤ head.made
  pub made : head.made ≤ length (seen_by r.place)

-- what holds of each reader: no point is above what it has seen
pub record IsReading (r : HookSeat) : Type 0 where
  pub recent : floor_start r.place ≤ length (seen_by r.place)
  pub late : r.latest ≤ point_of (seen_by r.place)
  pub head : IfSome r.head (IsHeadOf r)
  pub wide : length r.points ≡ MASK_SLOTS
  pub each : All (λ point. point ≤ r.latest) r.points
